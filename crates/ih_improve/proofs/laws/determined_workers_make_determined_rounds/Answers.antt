use Rattle.ih_improve.proofs.Determined.{all-rounds}
use Rattle.ih_improve.proofs.laws.determined_workers_make_determined_rounds.Goals as goal

pub returns : goal.returns
returns g c determined = all-rounds g.W.Walks.leaves determined
