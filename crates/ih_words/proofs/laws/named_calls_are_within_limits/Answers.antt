use Rattle.ih_words.proofs.CallNames.{named-within}
use Rattle.ih_words.proofs.laws.named_calls_are_within_limits.Goals as goal

pub returns : goal.returns
returns c = named-within
