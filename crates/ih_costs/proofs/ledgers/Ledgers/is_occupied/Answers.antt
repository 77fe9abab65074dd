use Rattle.std.proofs.Common.{◌<◌, ◌∙◌, sym, subst, ap, not}
use Rattle.std.specs.Prelude.{nat_lt}
use Rattle.ih_tables.specs.Sizes.{room_count}
use Rattle.ih_plan.specs.Costs.{is_empty}
use Rattle.ih_plan.specs.Presence.{present}
use Rattle.ih_costs.specs.CellLedgers.{timetable_of}
use Rattle.ih_costs.specs.LedgersState.{LedgersState}
use Rattle.ih_costs.proofs.Occupied.{occupied}
use Rattle.ih_costs.proofs.ledgers.Ledgers.is_occupied.Goals as goal

pub returns : goal.returns
returns c =
    let I = c.self.inside.inst.now.draft in
    let P = timetable_of c.self.inside.cells in
    let r = c.args.room.0 in
    let d = c.args.day.0 in
    let room : r < room_count I = subst (λ (s : LedgersState). r < room_count s.instance) (sym c.self.view_is) c.requires.room in
    let day : d < I.days = subst (λ (s : LedgersState). d < s.instance.days) (sym c.self.view_is) c.requires.day in
    ap (λ n. nat_lt 0 n) c.count.ensures
    ∙ occupied I P c.self.inside.cells.room_days r d c.self.invariant.0.room_days room day
    ∙ ap (λ (s : LedgersState). not (is_empty (present s.instance s.plan r d))) c.self.view_is
