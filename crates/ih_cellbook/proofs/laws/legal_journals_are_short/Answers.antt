use Rattle.ih_cellbook.proofs.Ranges.{journals-short}
use Rattle.ih_cellbook.proofs.laws.legal_journals_are_short.Goals as goal

pub returns : goal.returns
returns c = journals-short
