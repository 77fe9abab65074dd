use Rattle.ih_validate.proofs.LoadLemmas.{AreLoads}
use Rattle.ih_validate.proofs.loads.loads_at.Given as goal

abbrev pub invariant-loop-x : goal.invariant-loop-x
invariant-loop-x l = AreLoads l.inst.draft l.plan l.shift l.x l.loads
