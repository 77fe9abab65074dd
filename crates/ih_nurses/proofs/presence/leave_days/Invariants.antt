use Rattle.ih_nurses.proofs.HereLemmas.{AreLeft}
use Rattle.ih_nurses.proofs.presence.leave_days.Given as goal

abbrev pub invariant-loop-d : goal.invariant-loop-d
invariant-loop-d l = AreLeft l.inst.draft l.fn.here l.here l.from l.d l.person
