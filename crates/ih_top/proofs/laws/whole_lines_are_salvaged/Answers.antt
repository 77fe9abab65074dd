use Rattle.ih_top.proofs.JournalLaws.{whole-lines-salvaged}
use Rattle.ih_top.proofs.laws.whole_lines_are_salvaged.Goals as goal

pub returns : goal.returns
returns c b G bytes more H rest valid base legal cut begins =
    whole-lines-salvaged c.legal_journals_are_taken.ensures c.legal_journals_differ.ensures c.taken_lines_are_of_legal_histories.ensures b G bytes more H rest valid base legal cut begins
