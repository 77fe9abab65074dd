use Rattle.ih_top.proofs.JournalLaws.{refused-lines-not-full}
use Rattle.ih_top.proofs.laws.refused_lines_are_not_full.Goals as goal

pub returns : goal.returns
returns c b bytes H e valid base refused G full is =
    refused-lines-not-full c.legal_journals_are_taken.ensures c.legal_journals_differ.ensures c.taken_lines_are_of_legal_histories.ensures b bytes H e valid base refused G full is
