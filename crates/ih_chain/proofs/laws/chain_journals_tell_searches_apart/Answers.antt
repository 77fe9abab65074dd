use Rattle.ih_chain.proofs.JournalsApart.{journals-differ}
use Rattle.ih_chain.proofs.laws.chain_journals_tell_searches_apart.Goals as goal

pub returns : goal.returns
returns c = journals-differ
