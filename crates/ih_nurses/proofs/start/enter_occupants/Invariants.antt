use Rattle.ih_nurses.specs.Here.{AreFilled}
use Rattle.ih_nurses.proofs.start.enter_occupants.Given as goal

abbrev pub invariant-loop-o : goal.invariant-loop-o
invariant-loop-o l = AreFilled l.fn.inst.draft l.here l.o
