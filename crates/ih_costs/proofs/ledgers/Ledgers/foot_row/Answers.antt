use Rattle.std.proofs.Common.{◌≡◌, ◌∙◌, subst}
use Rattle.ih_plan.specs.Series.{footprint_of_all}
use Rattle.ih_costs.specs.LedgersState.{LedgersState}
use Rattle.ih_costs.proofs.RowLemmas.{gathered-series}
use Rattle.ih_costs.proofs.ledgers.Ledgers.foot_row.Goals as goal

pub returns-clause-cells : goal.returns-clause-cells
returns-clause-cells c =
    subst (λ (s : LedgersState). c.take_from.new.self.cells ≡ footprint_of_all s.instance s.plan c.args.moves.now) c.self.view_is
    (c.take_from.ensures.cells ∙ gathered-series _ _ _ _ _ c.self.invariant.1.sizes c.self.invariant.1.empty c.gather_row.ensures.gathers)
