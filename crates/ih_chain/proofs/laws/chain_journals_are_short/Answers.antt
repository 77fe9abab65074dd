use Rattle.ih_chain.proofs.Lengths.{journals-short}
use Rattle.ih_chain.proofs.laws.chain_journals_are_short.Goals as goal

pub returns : goal.returns
returns c = journals-short
