use Rattle.ih_plan.specs.Series.{AreMoves}
use Rattle.ih_proposals.proofs.nurse_repair.add_all.Given as goal

abbrev pub invariant-loop-i : goal.invariant-loop-i
invariant-loop-i l = AreMoves l.inst.draft l.attempt
