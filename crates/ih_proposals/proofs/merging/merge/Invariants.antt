use Rattle.ih_plan.specs.Series.{AreMoves}
use Rattle.ih_proposals.proofs.merging.merge.Given as goal

abbrev pub invariant-loop-i : goal.invariant-loop-i
invariant-loop-i l = AreMoves l.inst.draft l.attempt
