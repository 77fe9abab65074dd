use Rattle.ih_optimizer.proofs.SameSearches.{searches-same}
use Rattle.ih_optimizer.proofs.laws.searches_are_determined.Goals as goal

pub returns : goal.returns
returns c = searches-same
