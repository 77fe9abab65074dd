-- What a patient's placement costs, told day by day: the parts of the cells that it is in, number by number.
use Rattle.std.specs.Prelude.{◌≡◌, ℕ, ◌+◌, ◌-◌, ◌*◌, ◌<◌, pos, [], ◌∷◌, Option, Some, None}
use Rattle.ih_tables.specs.declared.drafts.Draft.{Draft}
use Rattle.ih_tables.specs.declared.cells.Cell.TheVariants.{Stay, RoomDay, TheatreDay, SurgeonDay, RoomShift, NurseShift, Care}
use Rattle.ih_tables.specs.declared.bills.Bill.{Bill}
use Rattle.ih_tables.specs.declared.ids.PatientNo.{PatientNo}
use Rattle.ih_tables.specs.Sizes.{patient_count}
use Rattle.ih_tables.specs.Bills.{at as place, sub_bills, zero_bill}
use Rattle.ih_plan.specs.declared.moves.Placement.{Placement}
use Rattle.ih_plan.specs.declared.moves.Write.TheVariants.{SetStay}
use Rattle.ih_plan.specs.Timetable.{Timetable, IsPlacement, IsPlanOf, stay_of, care_of}
use Rattle.ih_plan.specs.Writes.{put, IsWriteOf}
use Rattle.ih_plan.specs.Presence.{end_of}
use Rattle.ih_plan.specs.Costs.{surgeon_of}
use Rattle.ih_plan.specs.Sums.{sum_below}
use Rattle.ih_plan.specs.BillOf.{Counts, as_bill, change_of_bill, cost_count, rule_count}
use Rattle.ih_tables.specs.BillNumbers.{mixed_gender, incompatible_room, surgeon_overrun, theatre_overrun, unscheduled_mandatory, admission_window, room_capacity, nurse_presence, uncovered_room}
use Rattle.ih_tables.specs.BillNumbers.{mixed_age, nurse_skill, continuity_of_care, excess_workload, open_theatre, surgeon_transfer, patient_delay, unscheduled_optional}
use Rattle.ih_plan.specs.Cells.{part_at}
use Rattle.ih_costs.specs.declared.cell_ledgers.CellLedgers.{CellLedgers}
use Rattle.ih_costs.specs.declared.stay_prices.DaysMore.{DaysMore}
use Rattle.ih_costs.specs.declared.stay_prices.ShiftsMore.{ShiftsMore}
use Rattle.ih_costs.specs.CellLedgers.{AreLedgers, timetable_of}
use Rattle.ih_nurses.specs.Deltas.{increase_by_placement as increase}

-- f a + .. + f (b - 1)
unfoldable pub span_sum : ℕ → ℕ → (ℕ → ℕ) → ℕ
span_sum a b f = sum_below (b - a) (λ i. f (a + i))

-- ---- a number of the parts of a placement's cells at a timetable

module _ (I : Draft) (Q : Timetable) (p : ℕ) (at : Placement) (g : Counts → ℕ) where
  -- of the patient's stay, and of its nurses
  abbrev pub of_stay : ℕ
  of_stay = g (part_at I Q (Stay (record { 0 = p })))

  abbrev pub of_care : ℕ
  of_care = g (part_at I Q (Care (record { 0 = p })))

  -- of the room, over its days
  abbrev pub over_days : ℕ
  over_days = span_sum at.day.0 (end_of I p at) (λ d. g (part_at I Q (RoomDay at.room (record { 0 = d }))))

  -- of the theatre on the day of admission
  abbrev pub of_theatre : ℕ
  of_theatre = g (part_at I Q (TheatreDay at.theatre at.day))

  -- of a surgeon on that day, where there is one
  abbrev pub of_surgeon : Option ℕ → ℕ
  of_surgeon None = 0
  of_surgeon (Some s) = g (part_at I Q (SurgeonDay (record { 0 = s }) at.day))

  -- of the room, over its shifts
  abbrev pub over_shifts : ℕ
  over_shifts =
      span_sum (3 * at.day.0) (3 * end_of I p at) (λ k. g (part_at I Q (RoomShift at.room (record { 0 = k }))))

  -- of a nurse in shift k, where there is one
  abbrev pub of_nurse : ℕ → Option ℕ → ℕ
  of_nurse k None = 0
  of_nurse k (Some n) = g (part_at I Q (NurseShift (record { 0 = n }) (record { 0 = k })))

  -- of the room's nurses, over its shifts
  abbrev pub over_loads : ℕ
  over_loads = span_sum (3 * at.day.0) (3 * end_of I p at) (λ k. of_nurse k (care_of Q at.room.0 k))

-- The ledgers stand for a timetable that has patient p's stay so, and the placement is one of the instance.
pub record IsTrial (I : Draft) (l : CellLedgers) (p : PatientNo) (old : Option Placement) (at : Placement)
    : Type 0 where
  pub stands : AreLedgers I l
  pub patient : p.0 < patient_count I
  pub placement : IsPlacement I at
  pub stay : stay_of (timetable_of l) p.0 ≡ old

-- ---- the delta

-- what the placement costs at a timetable: each number is summed over the one kind of cells that has it
unfoldable pub delta_of : Draft → Timetable → ℕ → Placement → Counts
delta_of I Q p at = record {
  v = over_days I Q p at (rule_count mixed_gender)
      ∷ of_stay I Q p at (rule_count incompatible_room)
      ∷ of_surgeon I Q p at (rule_count surgeon_overrun) (surgeon_of I p)
      ∷ of_theatre I Q p at (rule_count theatre_overrun)
      ∷ of_stay I Q p at (rule_count unscheduled_mandatory)
      ∷ of_stay I Q p at (rule_count admission_window)
      ∷ over_days I Q p at (rule_count room_capacity)
      ∷ over_shifts I Q p at (rule_count nurse_presence)
      ∷ over_shifts I Q p at (rule_count uncovered_room)
      ∷ [];
  s = over_days I Q p at (cost_count mixed_age)
      ∷ over_shifts I Q p at (cost_count nurse_skill)
      ∷ of_care I Q p at (cost_count continuity_of_care)
      ∷ over_loads I Q p at (cost_count excess_workload)
      ∷ of_theatre I Q p at (cost_count open_theatre)
      ∷ of_surgeon I Q p at (cost_count surgeon_transfer) (surgeon_of I p)
      ∷ of_stay I Q p at (cost_count patient_delay)
      ∷ of_stay I Q p at (cost_count unscheduled_optional)
      ∷ [];
}

-- what the placement costs once it is made, less what its cells cost without it
abbrev pub placement_delta : Draft → Timetable → PatientNo → Placement → Bill
placement_delta I P p at =
    sub_bills (as_bill (delta_of I (put (SetStay p (Some at)) P) p.0 at))
    (as_bill (delta_of I (put (SetStay p None) P) p.0 at))

-- the numbers of a bill that rest on theatres and surgeons, and 0 for each other
abbrev pub of_surgery : Bill → Bill
of_surgery b = record {
  v = pos 0 ∷ pos 0 ∷ place b.v surgeon_overrun ∷ place b.v theatre_overrun
      ∷ pos 0 ∷ pos 0 ∷ pos 0 ∷ pos 0 ∷ pos 0 ∷ [];
  s = pos 0 ∷ pos 0 ∷ pos 0 ∷ pos 0
      ∷ place b.s open_theatre ∷ place b.s surgeon_transfer ∷ pos 0 ∷ pos 0 ∷ [];
}

-- the delta of a stay: nothing where there is none
abbrev pub stay_delta : Draft → Timetable → PatientNo → Option Placement → Bill
stay_delta I P p None = zero_bill
stay_delta I P p (Some at) = placement_delta I P p at

-- The law of deltas: another stay of a patient, or none, changes the bill by its delta less the delta of the old one.
abbrev pub StaysHaveDeltas : Draft → Type 0
StaysHaveDeltas I = (P : Timetable) (p : PatientNo) (new : Option Placement) → IsPlanOf I P → IsWriteOf I (SetStay p new)
    → change_of_bill I P (put (SetStay p new) P) ≡ sub_bills (stay_delta I P p new) (stay_delta I P p (stay_of P p.0))

-- ---- a number of the delta

-- what a room has more over the days of the placement with the patient there than without, and what it and its nurses
-- have more over the shifts
abbrev pub days_more : Draft → Timetable → PatientNo → Placement → DaysMore
days_more I P p at = record {
  mixed = increase P p at (λ Q. over_days I Q p.0 at (rule_count mixed_gender));
  crowded = increase P p at (λ Q. over_days I Q p.0 at (rule_count room_capacity));
  ages = increase P p at (λ Q. over_days I Q p.0 at (cost_count mixed_age));
}

abbrev pub shifts_more : Draft → Timetable → PatientNo → Placement → ShiftsMore
shifts_more I P p at = record {
  uncovered = increase P p at (λ Q. over_shifts I Q p.0 at (rule_count uncovered_room));
  missing_skill = increase P p at (λ Q. over_shifts I Q p.0 at (cost_count nurse_skill));
  overload = increase P p at (λ Q. over_loads I Q p.0 at (cost_count excess_workload));
}
