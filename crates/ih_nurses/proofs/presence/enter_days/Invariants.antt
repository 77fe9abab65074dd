use Rattle.ih_nurses.proofs.HereLemmas.{AreEntered}
use Rattle.ih_nurses.proofs.presence.enter_days.Given as goal

abbrev pub invariant-loop-d : goal.invariant-loop-d
invariant-loop-d l = AreEntered l.inst.draft l.fn.here l.here l.room.0 l.from l.d l.person
