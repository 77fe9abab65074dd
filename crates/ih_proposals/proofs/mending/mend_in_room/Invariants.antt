use Rattle.std.specs.Prelude.{IfSome}
use Rattle.ih_proposals.specs.Mending.{IsMend}
use Rattle.ih_proposals.proofs.mending.mend_in_room.Given as goal

abbrev pub invariant-loop-t : goal.invariant-loop-t
invariant-loop-t l = IfSome l.best (IsMend l.here.inst.now.draft)
