use Rattle.std.proofs.Common.{◌∙◌, sym}
use Rattle.ih_costs.proofs.RowLemmas.{alone, single-price}
use Rattle.ih_costs.proofs.ledgers.Ledgers.price_all_alone.Goals as goal

pub returns-in-Some-clause-price : goal.returns-in-Some-clause-price
returns-in-Some-clause-price c =
    rw (sym c.self.view_is) (c.price_of.ensures.price ∙ single-price _ _ _ _ (alone c.in-Some.ensures.cases.0 c.if-later-eq0.true))
