use Rattle.std.proofs.Common.{subst, sym}
use Rattle.ih_plan.specs.Series.{AreMoves}
use Rattle.ih_moves.proofs.InARow.{move-at}
use Rattle.ih_moves.proofs.chains.Chain.at.Goals as goal

pub returns : goal.returns
returns c =
    move-at c.args._inst.now.draft c.as_slice-moves.result.now c.args.index _
    (subst (AreMoves c.args._inst.now.draft) (sym c.as_slice-moves.ensures.moves) c.requires.moves) (rw c.as_slice-moves.ensures.moves c.requires.place)
