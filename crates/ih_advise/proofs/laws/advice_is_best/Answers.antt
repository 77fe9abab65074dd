use Rattle.ih_advise.proofs.Least.{advice-best}
use Rattle.ih_advise.proofs.laws.advice_is_best.Goals as goal

pub returns : goal.returns
returns c = advice-best
