use Rattle.ih_nurses.proofs.StayLemmas.{AreAdded}
use Rattle.ih_nurses.proofs.stays.add_stay.Given as goal

abbrev pub invariant-loop-k : goal.invariant-loop-k
invariant-loop-k l = AreAdded l.fn.inst.draft l.fn.plan l.fn.patient.0 l.fn.at l.fn.loads l.loads l.k
