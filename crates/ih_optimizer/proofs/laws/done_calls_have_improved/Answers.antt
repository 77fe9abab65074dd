use Rattle.ih_optimizer.proofs.Promises.{done-improved, none-drafted}
use Rattle.ih_optimizer.proofs.laws.done_calls_have_improved.Goals as goal

pub returns-clause-done : goal.returns-clause-done
returns-clause-done c = done-improved

pub returns-clause-none : goal.returns-clause-none
returns-clause-none c = none-drafted
