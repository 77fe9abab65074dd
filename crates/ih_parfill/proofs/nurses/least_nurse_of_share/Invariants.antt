use Rattle.std.proofs.Common.{◌≡◌, ◌≤◌, Some, map}
use Rattle.std.specs.Prelude.{filter}
use Rattle.ih_tables.specs.Works.{first_nurses, is_working}
use Rattle.ih_plan.specs.declared.moves.Write.TheVariants.{SetCare}
use Rattle.ih_fill.specs.ScorerState.{care_value}
use Rattle.ih_parfill.specs.Shares.{HasLooked}
use Rattle.ih_parfill.proofs.nurses.least_nurse_of_share.Given as goal

abbrev pub invariant-loop-n : goal.invariant-loop-n
invariant-loop-n l = record {
  looked : HasLooked l.inst.draft (care_value l.scorer) (map (λ n. SetCare l.room l.shift (Some n)) (filter (is_working l.inst.draft l.shift.0) (first_nurses l.n))) l.scan;
  passed : l.scan.passed ≤ l.n;
  workers : l.scan.workers ≡ l.workers;
  worker : l.scan.worker ≡ l.worker;
}
