use Rattle.ih_cellbook.proofs.EntryLimits.{legal-few}
use Rattle.ih_cellbook.proofs.laws.legal_histories_are_few.Goals as goal

pub returns : goal.returns
returns c = legal-few
