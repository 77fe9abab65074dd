use Rattle.std.proofs.Common.{[]}
use Rattle.ih_improve.proofs.Determined.{all-rounds-on}
use Rattle.ih_improve.proofs.laws.workers_that_go_on_make_determined_rounds.Goals as goal

pub returns : goal.returns
returns g c determined = all-rounds-on g.W.GoesOn.leaves determined []
