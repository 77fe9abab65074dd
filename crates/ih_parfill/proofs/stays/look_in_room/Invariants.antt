use Rattle.std.proofs.Common.{◌≡◌, ◌+◌, ◌++◌, List}
use Rattle.ih_plan.specs.declared.moves.Write.{Write}
use Rattle.ih_fill.specs.Candidates.{stays_in}
use Rattle.ih_fill.specs.ScorerState.{stay_value}
use Rattle.ih_parfill.specs.Shares.{HasLooked}
use Rattle.ih_parfill.proofs.stays.look_in_room.Given as goal

abbrev pub invariant-loop-t : goal.invariant-loop-t
invariant-loop-t l = record {
  looked : (ws : List Write) → HasLooked l.inst.draft (stay_value l.scorer) ws l.fn.scan
      → HasLooked l.inst.draft (stay_value l.scorer) (ws ++ stays_in l.patient l.day.0 l.room.0 l.t) l.scan;
  passed : l.scan.passed ≡ l.fn.scan.passed + l.t;
  workers : l.scan.workers ≡ l.fn.scan.workers;
  worker : l.scan.worker ≡ l.fn.scan.worker;
}
