use Rattle.ih_improve.specs.WalkerState.{IsUnderway}
use Rattle.ih_improve.proofs.workers.ImproveWorker.take_all_out.Given as goal

abbrev pub invariant-loop-p : goal.invariant-loop-p
invariant-loop-p l = IsUnderway l.leg l.self.walker
