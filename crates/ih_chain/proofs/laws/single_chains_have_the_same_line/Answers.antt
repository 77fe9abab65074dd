use Rattle.ih_chain.proofs.Lines.{same-line}
use Rattle.ih_chain.proofs.laws.single_chains_have_the_same_line.Goals as goal

pub returns : goal.returns
returns c = same-line
