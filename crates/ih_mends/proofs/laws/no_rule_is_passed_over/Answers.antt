use Rattle.ih_mends.proofs.Passed.{none-passed}
use Rattle.ih_mends.proofs.laws.no_rule_is_passed_over.Goals as goal

pub returns : goal.returns
returns c = λ I P. none-passed I P
