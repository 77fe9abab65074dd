use Rattle.std.proofs.Common.{sym, subst}
use Rattle.ih_plan.proofs.BillBounds.{change-within}
use Rattle.ih_plan.specs.Series.{AreMoves, after_all}
use Rattle.ih_plan.proofs.Series.{after_all-plan}
use Rattle.ih_costs.specs.CellLedgers.{timetable_of}
use Rattle.ih_costs.specs.LedgersState.{LedgersState}
use Rattle.ih_costs.proofs.StandLemmas.{plan-fits}
use Rattle.ih_costs.proofs.ledgers.Ledgers.price_row.Goals as goal

pub returns-clause-within : goal.returns-clause-within
returns-clause-within c =
    let I = c.self.inside.inst.now.draft in
    let P = timetable_of c.self.inside.cells in
    let ms = c.args.moves.now in
    let plan = plan-fits I P c.self.inside.cells c.self.invariant.0 in
    let fits : AreMoves I ms = subst (λ (s : LedgersState). AreMoves s.instance ms) (sym c.self.view_is) c.requires in
    rw c.change_by_row.ensures.change
    (change-within I P (after_all I P ms) c.self.inside.inst.now.valid plan (after_all-plan I P ms plan fits))
