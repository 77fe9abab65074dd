use Rattle.ih_improve.proofs.WeightLemmas.{defaults-same}
use Rattle.ih_improve.proofs.laws.defaults_are_determined.Goals as goal

pub returns : goal.returns
returns c = defaults-same
