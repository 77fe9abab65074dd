use Rattle.std.proofs.Common.{◌≡◌, IfSome, Some, map}
use Rattle.std.specs.Prelude.{filter}
use Rattle.ih_tables.specs.Works.{first_nurses, is_working}
use Rattle.ih_plan.specs.declared.moves.Write.TheVariants.{SetCare}
use Rattle.ih_plan.specs.Writes.{IsWriteOf}
use Rattle.ih_fill.specs.Candidates.{least_of}
use Rattle.ih_fill.specs.ScorerState.{care_value}
use Rattle.ih_fill.proofs.nurses.cheapest_nurse.Given as goal

abbrev pub invariant-loop-n : goal.invariant-loop-n
invariant-loop-n l = record {
  least : l.best ≡ least_of (care_value l.scorer) (map (λ n. SetCare l.room l.shift (Some n)) (filter (is_working l.inst.draft l.shift.0) (first_nurses l.n)));
  fits : IfSome l.best (λ best. IsWriteOf l.inst.draft best.write);
}
