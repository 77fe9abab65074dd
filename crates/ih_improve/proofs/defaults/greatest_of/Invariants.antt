use Rattle.ih_improve.proofs.WeightLemmas.{IsGreatestTo}
use Rattle.ih_improve.proofs.defaults.greatest_of.Given as goal

abbrev pub invariant-loop-w : goal.invariant-loop-w
invariant-loop-w l = IsGreatestTo l.weights l.w-index l.greatest
