-- What another choice of nurse for a room's shift changes in the bill, told number by number: by that room's shift,
-- the loads of the old nurse and the new, and the nurses of who is there.
use Rattle.std.specs.Prelude.{◌≡◌, ◌≢◌, ◌+◌, pos, [], ◌∷◌, Option, option_map}
use Rattle.ih_tables.specs.declared.drafts.Draft.{Draft}
use Rattle.ih_tables.specs.declared.cells.Cell.TheVariants.{RoomShift}
use Rattle.ih_tables.specs.declared.bills.Bill.{Bill}
use Rattle.ih_tables.specs.declared.ids.RoomNo.{RoomNo}
use Rattle.ih_tables.specs.declared.ids.Shift.{Shift}
use Rattle.ih_tables.specs.declared.ids.NurseNo.{NurseNo}
use Rattle.ih_plan.specs.declared.moves.Write.TheVariants.{SetCare}
use Rattle.ih_plan.specs.Timetable.{Timetable, IsPlanOf, care_of}
use Rattle.ih_plan.specs.Writes.{put, IsWriteOf}
use Rattle.ih_plan.specs.Presence.{present, day_of}
use Rattle.ih_plan.specs.BillOf.{change_of_bill, rule_count, cost_count}
use Rattle.ih_plan.specs.Cells.{part_at}
use Rattle.ih_nurses.specs.Choice.{excess_of, seen_by, increase_by_choice}
use Rattle.ih_tables.specs.BillNumbers.{nurse_presence, uncovered_room, nurse_skill}

-- by how much each number increases; rules and costs that rest on no nurses stay
abbrev pub choice_told : Draft → Timetable → RoomNo → Shift → Option NurseNo → Bill
choice_told I P r k new = record {
  v = pos 0 ∷ pos 0 ∷ pos 0 ∷ pos 0 ∷ pos 0 ∷ pos 0 ∷ pos 0
      ∷ increase_by_choice P r k new (λ Q. rule_count nurse_presence (part_at I Q (RoomShift r k)))
      ∷ increase_by_choice P r k new (λ Q. rule_count uncovered_room (part_at I Q (RoomShift r k)))
      ∷ [];
  s = pos 0
      ∷ increase_by_choice P r k new (λ Q. cost_count nurse_skill (part_at I Q (RoomShift r k)))
      ∷ increase_by_choice P r k new (λ Q. seen_by I Q (present I P r.0 (day_of k.0)))
      ∷ increase_by_choice P r k new (λ Q.
      excess_of I Q k.0 (care_of P r.0 k.0) + excess_of I Q k.0 (option_map (λ (a : NurseNo). a.0) new))
      ∷ pos 0 ∷ pos 0 ∷ pos 0 ∷ pos 0 ∷ [];
}

-- The law of choices: another nurse for a room's shift, or none, changes the bill by what is told of it.
abbrev pub ChoicesHaveDeltas : Draft → Type 0
ChoicesHaveDeltas I = (P : Timetable) (r : RoomNo) (k : Shift) (new : Option NurseNo)
    → IsPlanOf I P → IsWriteOf I (SetCare r k new)
    → care_of P r.0 k.0 ≢ option_map (λ (a : NurseNo). a.0) new
    → change_of_bill I P (put (SetCare r k new) P) ≡ choice_told I P r k new
