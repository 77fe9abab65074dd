use Rattle.ih_replay.proofs.Journals.{journals-differ}
use Rattle.ih_replay.proofs.laws.legal_journals_differ.Goals as goal

pub returns : goal.returns
returns c b H G valid base legal_H legal_G same = journals-differ b H G valid base legal_H legal_G same
