use Rattle.ih_moves.proofs.chains.Chain.begin.Goals as goal

pub returns : goal.returns
returns c = rw c.clear.ensures tt
