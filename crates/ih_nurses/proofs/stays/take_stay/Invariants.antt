use Rattle.ih_nurses.proofs.StayLemmas.{AreTaken}
use Rattle.ih_nurses.proofs.stays.take_stay.Given as goal

abbrev pub invariant-loop-k : goal.invariant-loop-k
invariant-loop-k l = AreTaken l.fn.inst.draft l.fn.plan l.fn.patient.0 l.fn.at l.fn.loads l.loads l.k
