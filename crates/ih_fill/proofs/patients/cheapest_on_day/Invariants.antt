use Rattle.std.proofs.Common.{◌≡◌}
use Rattle.ih_plan.specs.Writes.{IsWriteOf}
use Rattle.ih_fill.specs.ScorerState.{stay_value}
use Rattle.ih_fill.specs.Candidates.{cheapest, valued, stays_on}
use Rattle.ih_fill.proofs.patients.cheapest_on_day.Given as goal

abbrev pub invariant-loop-r : goal.invariant-loop-r
invariant-loop-r l = record {
  least : l.best ≡ valued (stay_value l.scorer) (cheapest (stay_value l.scorer) l.fn.before.write (stays_on l.inst.draft l.patient_no l.patient l.day.0 l.r));
  fits : IsWriteOf l.inst.draft l.best.write;
}
