use Rattle.ih_cellbook.proofs.ExactPrices.{prices-exact}
use Rattle.ih_cellbook.proofs.laws.accepted_prices_are_exact.Goals as goal

pub returns : goal.returns
returns c = prices-exact
