-- Ledgers that stand for a timetable stand for it after writes too.
use Rattle.std.proofs.Common.{◌≡◌, sym, subst, Option}
use Rattle.ih_tables.specs.declared.drafts.Draft.{Draft}
use Rattle.ih_tables.specs.declared.ids.RoomNo.{RoomNo}
use Rattle.ih_tables.specs.declared.ids.Shift.{Shift}
use Rattle.ih_tables.specs.declared.ids.NurseNo.{NurseNo}
use Rattle.ih_plan.specs.declared.moves.Write.TheVariants.{SetCare}
use Rattle.ih_plan.specs.Timetable.{Timetable, IsPlanOf}
use Rattle.ih_plan.specs.Writes.{put, IsWriteOf}
use Rattle.ih_plan.specs.Presence.{admission_of}
use Rattle.ih_plan.proofs.PlanRanges.{put-plan}
use Rattle.ih_roomdays.specs.declared.room_lists.RoomLists.{RoomLists}
use Rattle.ih_roomdays.specs.Ledger.{IsLedgerOf as Has_room_days}
use Rattle.ih_theatres.specs.declared.theatres.Theatres.{Theatres}
use Rattle.ih_theatres.specs.Ledger.{IsLedgerOf as Has_theatres}
use Rattle.ih_costs.specs.declared.cell_ledgers.CellLedgers.{CellLedgers}
use Rattle.ih_costs.specs.CellLedgers.{AreLedgersOf, AreLedgers, timetable_of}

-- ---- the ledgers keep their timetable

pub kept : (I : Draft) (P : Timetable) (l : CellLedgers) → AreLedgersOf I P l → timetable_of l ≡ P
kept I P l stands = stands.nurses.plan_is

pub stands-own : (I : Draft) (P : Timetable) (l : CellLedgers) → AreLedgersOf I P l → AreLedgers I l
stands-own I P l stands = subst (λ Q. AreLedgersOf I Q l) (sym (kept I P l stands)) stands

pub plan-fits : (I : Draft) (P : Timetable) (l : CellLedgers) → AreLedgersOf I P l → IsPlanOf I P
plan-fits I P l stands = stands.room_days.plan

-- ---- who is where doesn't rest on the nurses

pub room_days-care : (I : Draft) (P : Timetable) (v : RoomLists) (r : RoomNo) (k : Shift) (n : Option NurseNo) → IsWriteOf I (SetCare r k n) → Has_room_days I P v
    → Has_room_days I (put (SetCare r k n) P) v
unfolding admission_of
room_days-care I P v r k n fits stands = record {
  plan = put-plan I P (SetCare r k n) stands.plan fits;
  rows = stands.rows;
  rooms = stands.rooms;
  days = stands.days;
  persons = stands.persons;
  profiles = stands.profiles;
  each = stands.each;
}

pub theatres-care : (I : Draft) (P : Timetable) (l : Theatres) (r : RoomNo) (k : Shift) (n : Option NurseNo) → IsWriteOf I (SetCare r k n) → Has_theatres I P l
    → Has_theatres I (put (SetCare r k n) P) l
theatres-care I P l r k n fits stands = record {
  plan = put-plan I P (SetCare r k n) stands.plan fits;
  theatres = stands.theatres;
  theatre_days = stands.theatre_days;
  surgeon_days = stands.surgeon_days;
  theatre_minutes = stands.theatre_minutes;
  surgeon_minutes = stands.surgeon_minutes;
}
