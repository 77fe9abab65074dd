use Rattle.ih_journal.proofs.JournalTexts.{journals-differ}
use Rattle.ih_journal.proofs.parse.journals_differ.Goals as goal

pub returns : goal.returns
returns c = journals-differ
