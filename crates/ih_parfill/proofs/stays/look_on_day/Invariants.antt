use Rattle.std.proofs.Common.{◌≡◌, ◌+◌, ◌*◌, ◌≤◌, ◌++◌, List}
use Rattle.ih_plan.specs.declared.moves.Write.{Write}
use Rattle.ih_fill.specs.Candidates.{stays_on}
use Rattle.ih_fill.specs.ScorerState.{stay_value}
use Rattle.ih_parfill.specs.Shares.{HasLooked}
use Rattle.ih_parfill.proofs.stays.look_on_day.Given as goal

abbrev pub invariant-loop-r : goal.invariant-loop-r
invariant-loop-r l = record {
  looked : (ws : List Write) → HasLooked l.inst.draft (stay_value l.scorer) ws l.fn.scan
      → HasLooked l.inst.draft (stay_value l.scorer) (ws ++ stays_on l.inst.draft l.patient_no l.patient l.day.0 l.r) l.scan;
  passed : l.scan.passed ≤ l.fn.scan.passed + 64 * l.r;
  workers : l.scan.workers ≡ l.fn.scan.workers;
  worker : l.scan.worker ≡ l.fn.scan.worker;
}
