use Rattle.ih_improve.specs.WalkerState.{IsUnderway}
use Rattle.ih_improve.proofs.mending.mend_shifts.Given as goal

abbrev pub invariant-loop-r : goal.invariant-loop-r
invariant-loop-r l = IsUnderway l.leg l.worker.walker

abbrev pub invariant-loop-k : goal.invariant-loop-k
invariant-loop-k l = IsUnderway l.leg l.worker.walker
