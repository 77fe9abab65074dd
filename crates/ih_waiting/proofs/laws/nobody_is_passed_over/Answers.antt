use Rattle.ih_waiting.proofs.Passed.{nobody-waits}
use Rattle.ih_waiting.proofs.laws.nobody_is_passed_over.Goals as goal

pub returns : goal.returns
returns c = λ I P. nobody-waits I P
