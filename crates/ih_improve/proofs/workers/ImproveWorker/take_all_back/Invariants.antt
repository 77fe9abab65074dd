use Rattle.ih_improve.specs.WalkerState.{IsUnderway}
use Rattle.ih_improve.proofs.workers.ImproveWorker.take_all_back.Given as goal

abbrev pub invariant-loop-p : goal.invariant-loop-p
invariant-loop-p l = IsUnderway l.leg l.self.walker

abbrev pub invariant-loop-r : goal.invariant-loop-r
invariant-loop-r l = IsUnderway l.leg l.self.walker

abbrev pub invariant-loop-k : goal.invariant-loop-k
invariant-loop-k l = IsUnderway l.leg l.self.walker
