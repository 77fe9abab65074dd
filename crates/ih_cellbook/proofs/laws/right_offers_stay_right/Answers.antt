use Rattle.ih_cellbook.proofs.Staying.{right-stays}
use Rattle.ih_cellbook.proofs.laws.right_offers_stay_right.Goals as goal

pub returns : goal.returns
returns c = right-stays
