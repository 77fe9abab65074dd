use Rattle.ih_cellbook.proofs.Ranges.{histories-in-range}
use Rattle.ih_cellbook.proofs.laws.legal_histories_are_in_range.Goals as goal

pub returns : goal.returns
returns c = histories-in-range
