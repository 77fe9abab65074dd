use Rattle.std.proofs.Common.{◌∙◌, ap, sym, subst}
use Rattle.ih_plan.specs.BillOf.{as_bill}
use Rattle.ih_roomdays.specs.Occupancy.{IsOccupancy, IsSmall}
use Rattle.ih_roomdays.specs.Ledger.{IsLedgerOf}
use Rattle.ih_roomdays.specs.Parts.{room_day_part}
use Rattle.ih_roomdays.specs.RoomLists.{persons_at}
use Rattle.ih_roomdays.proofs.People.{crowd-read, crowd-small}
use Rattle.ih_roomdays.proofs.Standing.{cell-part, place-known, persons-known}
use Rattle.ih_roomdays.proofs.room_days.RoomDays.cell_bill.Goals as goal

pub room_counts-requires-clause-small : goal.room_counts-requires-clause-small
room_counts-requires-clause-small c =
    let I = c.args.inst.now.draft in
    let v = c.self.inside.rows in
    let stands = subst (λ w. IsLedgerOf I c.requires.stands.0 w) (sym c.self.view_is) c.requires.stands.1 in
    let place = place-known I c.requires.stands.0 v stands c.args.room c.args.day c.requires.room c.requires.day in
    subst (λ k. IsSmall k.occupancy) (sym (crowd-read v c.args.room.0 c.args.day.0 c.index.result.now stands.rows place.0 place.1 c.index.ensures)) (crowd-small v c.args.room.0 c.args.day.0 stands.rows place.1)

pub returns-clause-value : goal.returns-clause-value
returns-clause-value c = λ P stands.
    let I = c.args.inst.now.draft in
    let v = c.self.inside.rows in
    let now = subst (λ w. IsLedgerOf I P w) (sym c.self.view_is) stands in
    let place = place-known I P v now c.args.room c.args.day c.requires.room c.requires.day in
    let is = crowd-read v c.args.room.0 c.args.day.0 c.index.result.now now.rows place.0 place.1 c.index.ensures in
    let kept = subst (λ k. IsOccupancy v.profiles (persons_at v c.args.room.0 c.args.day.0) k.occupancy) (sym is) (now.rows.kept c.args.room.0 c.args.day.0 place.1).occupancy in
    c.room_day_bill.ensures.value
    ∙ ap (λ k. as_bill (room_day_part k)) (c.room_counts.ensures v.profiles (persons_at v c.args.room.0 c.args.day.0) now.profiles (persons-known I P v now c.args.room.0 c.args.day.0 place.1) kept)
    ∙ ap as_bill (cell-part I P v now c.args.room c.args.day c.requires.day)
