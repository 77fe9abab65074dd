use Rattle.ih_replay.proofs.Journals.{taken-legal}
use Rattle.ih_replay.proofs.laws.taken_lines_are_of_legal_histories.Goals as goal

pub returns : goal.returns
returns c b lines G taken = taken-legal b lines G taken
