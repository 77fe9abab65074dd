use Rattle.ih_improve.proofs.WeightLemmas.{IsMiddleTo}
use Rattle.ih_improve.proofs.defaults.middle_of.Given as goal

abbrev pub invariant-loop-w : goal.invariant-loop-w
invariant-loop-w l = IsMiddleTo l.weights l.w-index l.middle
