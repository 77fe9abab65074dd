use Rattle.ih_plan.specs.Series.{AreMoves}
use Rattle.ih_proposals.proofs.regroup.withdraw_from.Given as goal

abbrev pub invariant-loop-d : goal.invariant-loop-d
invariant-loop-d l = AreMoves l.here.inst.now.draft l.attempt
