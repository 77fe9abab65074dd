use Rattle.std.proofs.Common.{◌∙◌}
use Rattle.ih_costs.proofs.RowLemmas.{alone, single-footprint}
use Rattle.ih_costs.proofs.ledgers.Ledgers.foot_all.Goals as goal

pub returns-in-Some-clause-cells : goal.returns-in-Some-clause-cells
returns-in-Some-clause-cells c = c.foot.ensures.cells ∙ single-footprint _ _ _ _ (alone c.in-Some.ensures.cases.0 c.if-later-eq0.true)
