use Rattle.ih_replay.proofs.Journals.{journals-taken}
use Rattle.ih_replay.proofs.laws.legal_journals_are_taken.Goals as goal

pub returns : goal.returns
returns c b G bytes more lines last valid base legal text pieces = journals-taken b G bytes more lines last valid base legal text pieces
