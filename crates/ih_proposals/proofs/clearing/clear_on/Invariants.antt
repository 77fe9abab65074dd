use Rattle.ih_plan.specs.Series.{AreMoves}
use Rattle.ih_proposals.proofs.clearing.clear_on.Given as goal

abbrev pub invariant-leaving : goal.invariant-leaving
invariant-leaving l = AreMoves l.here.inst.now.draft l.attempt
