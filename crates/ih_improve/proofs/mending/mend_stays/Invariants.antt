use Rattle.ih_improve.specs.WalkerState.{IsUnderway}
use Rattle.ih_improve.proofs.mending.mend_stays.Given as goal

abbrev pub invariant-cheapest : goal.invariant-cheapest
invariant-cheapest l = IsUnderway l.leg l.worker.walker

abbrev pub invariant-loop-p : goal.invariant-loop-p
invariant-loop-p l = IsUnderway l.leg l.worker.walker
