use Rattle.ih_rounds.proofs.JournalsApart.{rounds-differ}
use Rattle.ih_rounds.proofs.laws.journals_tell_rounds_apart.Goals as goal

pub returns : goal.returns
returns c = rounds-differ c.legal_histories_are_in_range.ensures
