use Rattle.ih_optimizer.proofs.SameRounds.{attempts-same, rounds-same}
use Rattle.ih_optimizer.proofs.laws.determined_workers_leave_the_same.Goals as goal

pub returns-clause-spans : goal.returns-clause-spans
returns-clause-spans g c = rounds-same g.W.Walks.leaves

pub returns-clause-attempts : goal.returns-clause-attempts
returns-clause-attempts g c = attempts-same g.W.Walks.leaves
