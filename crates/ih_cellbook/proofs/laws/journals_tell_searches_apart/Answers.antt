use Rattle.ih_cellbook.proofs.Ranges.{two-journals}
use Rattle.ih_cellbook.proofs.laws.journals_tell_searches_apart.Goals as goal

pub returns : goal.returns
returns c = two-journals
