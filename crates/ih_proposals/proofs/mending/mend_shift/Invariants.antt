use Rattle.std.specs.Prelude.{IfSome}
use Rattle.ih_proposals.specs.Mending.{IsMend}
use Rattle.ih_proposals.proofs.mending.mend_shift.Given as goal

abbrev pub invariant-loop-i : goal.invariant-loop-i
invariant-loop-i l = IfSome l.best (IsMend l.inst.draft)
