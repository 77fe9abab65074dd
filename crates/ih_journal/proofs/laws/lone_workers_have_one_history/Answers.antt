use Rattle.ih_journal.proofs.LoneWorkers.{lone-fresh, lone-moves, lone-same}
use Rattle.ih_journal.proofs.laws.lone_workers_have_one_history.Goals as goal

pub returns : goal.returns
returns c = record { fresh = lone-fresh; moves = lone-moves; same = lone-same }
