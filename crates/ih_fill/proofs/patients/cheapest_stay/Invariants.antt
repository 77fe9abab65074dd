use Rattle.std.specs.Prelude.{flat_map}
use Rattle.std.specs.List.{range_with_len}
use Rattle.ih_tables.specs.Sizes.{room_count}
use Rattle.std.proofs.Common.{◌≡◌}
use Rattle.ih_plan.specs.Writes.{IsWriteOf}
use Rattle.ih_fill.specs.ScorerState.{stay_value}
use Rattle.ih_fill.specs.Candidates.{cheapest, valued, stays_on}
use Rattle.ih_fill.proofs.patients.cheapest_stay.Given as goal

abbrev pub invariant-loop-later : goal.invariant-loop-later
invariant-loop-later l = record {
  least : l.best ≡ valued (stay_value l.scorer) (cheapest (stay_value l.scorer) l.fn.before.write
      (flat_map (λ d. stays_on l.inst.draft l.patient_no l.patient d (room_count l.inst.draft)) (range_with_len l.patient.surgery_release_day l.later)));
  fits : IsWriteOf l.inst.draft l.best.write;
}
