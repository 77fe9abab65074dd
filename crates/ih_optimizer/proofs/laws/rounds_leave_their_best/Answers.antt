use Rattle.ih_optimizer.proofs.RoundsTaken.{best-left}
use Rattle.ih_optimizer.proofs.laws.rounds_leave_their_best.Goals as goal

pub returns : goal.returns
returns c = best-left
