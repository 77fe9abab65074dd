use Rattle.ih_chain.proofs.SingleHistories.{singles-of-moves}
use Rattle.ih_chain.proofs.laws.single_chains_are_moves.Goals as goal

pub returns : goal.returns
returns c = singles-of-moves
