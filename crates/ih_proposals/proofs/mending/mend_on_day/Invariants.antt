use Rattle.std.specs.Prelude.{IfSome}
use Rattle.ih_proposals.specs.Mending.{IsMend}
use Rattle.ih_proposals.proofs.mending.mend_on_day.Given as goal

abbrev pub invariant-loop-r : goal.invariant-loop-r
invariant-loop-r l = IfSome l.best (IsMend l.here.inst.now.draft)
