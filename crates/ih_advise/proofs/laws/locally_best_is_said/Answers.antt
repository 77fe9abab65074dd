use Rattle.ih_advise.proofs.Lines.{said-only, said-always}
use Rattle.ih_advise.proofs.laws.locally_best_is_said.Goals as goal

pub returns : goal.returns
returns c = λ list. (said-only list, said-always list)
