use Rattle.std.specs.Prelude.{IfSome}
use Rattle.ih_proposals.specs.Mending.{IsMend}
use Rattle.ih_proposals.proofs.mending.mend_from.Given as goal

abbrev pub invariant-loop-later : goal.invariant-loop-later
invariant-loop-later l = IfSome l.best (IsMend l.here.inst.now.draft)
