use Rattle.std.specs.Prelude.{IfSome}
use Rattle.ih_proposals.specs.Mending.{IsMend}
use Rattle.ih_improve.proofs.mending.cheapest_mend.Given as goal

abbrev pub invariant-loop-p : goal.invariant-loop-p
invariant-loop-p l = IfSome l.best (IsMend l.leg.instance)
