use Rattle.ih_nurses.proofs.SeenLemmas.{AreSeen}
use Rattle.ih_nurses.proofs.seen.seen_in.Given as goal

abbrev pub invariant-loop-j : goal.invariant-loop-j
invariant-loop-j l = AreSeen l.inst.draft l.plan l.room.0 l.from l.j l.seen l.count
