-- The law of choices: what another choice of nurse changes in the bill.
use Rattle.std.proofs.Common.{◌≡◌, ℕ, ◌+◌, ◌^◌, refl, arith, ap, sym, subst, ◌∙◌, List, [], ◌∷◌, Option, Some, None}
use Rattle.std.specs.Prelude.{ℤ, pos, neg_ℤ, ◌≤ℤ◌, slice_index, sum_by, option_map}
use Rattle.ih_tables.specs.declared.drafts.Draft.{Draft}
use Rattle.ih_tables.specs.declared.ids.RoomNo.{RoomNo}
use Rattle.ih_tables.specs.declared.ids.Shift.{Shift}
use Rattle.ih_tables.specs.declared.ids.NurseNo.{NurseNo}
use Rattle.ih_tables.specs.declared.cells.Cell.TheVariants.{RoomShift}
use Rattle.ih_tables.specs.declared.bills.Bill.{Bill}
use Rattle.ih_tables.specs.Bills.{at as place, sub_bills, IsWithin}
use Rattle.ih_tables.specs.Valid.{IsValid}
use Rattle.ih_plan.specs.declared.moves.Write.TheVariants.{SetCare}
use Rattle.ih_plan.specs.Timetable.{Timetable, IsPlanOf, care_of}
use Rattle.ih_plan.specs.Writes.{put, IsWriteOf}
use Rattle.ih_plan.specs.Presence.{present, day_of}
use Rattle.ih_tables.specs.Listed.{listed}
use Rattle.ih_plan.specs.BillOf.{Counts, as_bill, change_of_bill, rule_count, cost_count}
use Rattle.ih_plan.specs.Cells.{part_at, part_of, content_of}
use Rattle.ih_plan.proofs.BillBounds.{change-within}
use Rattle.ih_plan.proofs.CellNumbers.{nurse_shift_cell, care_cell}
use Rattle.ih_plan.proofs.Parts.{total, has_parts}
use Rattle.ih_plan.proofs.PlanRanges.{put-plan}
use Rattle.ih_plan.proofs.Entries.{number_of_nurse}
use Rattle.ih_footprint.proofs.LocalPrices.{differences-same}
use Rattle.ih_nurses.specs.Choice.{excess_of, seen_by, increase_by_choice}
use Rattle.ih_tables.specs.BillNumbers.{mixed_gender, incompatible_room, surgeon_overrun, theatre_overrun, unscheduled_mandatory, admission_window, room_capacity, nurse_presence, uncovered_room}
use Rattle.ih_tables.specs.BillNumbers.{mixed_age, nurse_skill, continuity_of_care, excess_workload, open_theatre, surgeon_transfer, patient_delay, unscheduled_optional}
use Rattle.ih_costs.specs.ChoiceDelta.{choice_told}
use Rattle.ih_costs.proofs.ChoiceLemmas.{loads_by, cares_by, choice_by, number-choice}
use Rattle.ih_costs.proofs.DeltaBills.{counts-same, nine, eight}
use Rattle.ih_costs.proofs.DeltaSteps.{handed, passed-is}
use Rattle.ih_costs.proofs.SpanSums.{at_place}

-- ---- sums of nothing

nowhere : (f : ℕ → ℕ) → ((i : ℕ) → f i ≡ 0) → (o : Option ℕ) → at_place f o ≡ 0
nowhere f e None = refl
nowhere f e (Some i) = e i

sum-none : (f : ℕ → ℕ) → ((i : ℕ) → f i ≡ 0) → (xs : List ℕ) → sum_by f xs ≡ 0
sum-none f e [] = refl
sum-none f e (x ∷ xs) = rw (e x, sum-none f e xs) refl

-- ---- the law

module _ (I : Draft) (P : Timetable) (r : RoomNo) (k : Shift) (new : Option NurseNo) where
  -- the numbers of the choice's cells at a timetable, each of the one kind of cells that has it
  numbers : Timetable → Counts
  numbers Q = record {
    v = 0 ∷ 0 ∷ 0 ∷ 0 ∷ 0 ∷ 0 ∷ 0 ∷ rule_count nurse_presence (part_at I Q (RoomShift r k)) ∷ rule_count uncovered_room (part_at I Q (RoomShift r k)) ∷ [];
    s = 0 ∷ cost_count nurse_skill (part_at I Q (RoomShift r k)) ∷ seen_by I Q (present I P r.0 (day_of k.0))
        ∷ (excess_of I Q k.0 (care_of P r.0 k.0) + excess_of I Q k.0 (number_of_nurse new)) ∷ 0 ∷ 0 ∷ 0 ∷ 0 ∷ [];
  }

  module _ (Q : Timetable) where
    loads-none : (g : Counts → ℕ) → ((n : ℕ) → g (part_at I Q (nurse_shift_cell n k.0)) ≡ 0) → loads_by I P r k new Q g ≡ 0
    loads-none g e =
        let old = nowhere (λ n. g (part_at I Q (nurse_shift_cell n k.0))) e (care_of P r.0 k.0) in
        let later = nowhere (λ n. g (part_at I Q (nurse_shift_cell n k.0))) e (number_of_nurse new) in
        omega (arith, old, later)

    cares-none : (g : Counts → ℕ) → ((x : ℕ) → g (part_at I Q (care_cell x)) ≡ 0) → cares_by I P r k new Q g ≡ 0
    cares-none g e = sum-none (λ x. g (part_at I Q (care_cell x))) e (present I P r.0 (day_of k.0))

    by_room : (g : Counts → ℕ) → ((n : ℕ) → g (part_at I Q (nurse_shift_cell n k.0)) ≡ 0) → ((x : ℕ) → g (part_at I Q (care_cell x)) ≡ 0)
        → choice_by I P r k new Q g ≡ g (part_at I Q (RoomShift r k))
    by_room g loads cares =
        let z_loads = loads-none g loads in
        let z_cares = cares-none g cares in
        omega (arith, z_loads, z_cares)

    by_none : (g : Counts → ℕ) → g (part_at I Q (RoomShift r k)) ≡ 0 → ((n : ℕ) → g (part_at I Q (nurse_shift_cell n k.0)) ≡ 0) → ((x : ℕ) → g (part_at I Q (care_cell x)) ≡ 0)
        → choice_by I P r k new Q g ≡ 0
    by_none g room loads cares = by_room g loads cares ∙ room

    seen : choice_by I P r k new Q (cost_count continuity_of_care) ≡ seen_by I Q (present I P r.0 (day_of k.0))
    unfolding part_of content_of
    seen =
        let room : cost_count continuity_of_care (part_at I Q (RoomShift r k)) ≡ 0 = refl in
        let loads = loads-none (cost_count continuity_of_care) (λ n. refl) in
        omega (arith, room, loads)

    load : choice_by I P r k new Q (cost_count excess_workload) ≡ excess_of I Q k.0 (care_of P r.0 k.0) + excess_of I Q k.0 (number_of_nurse new)
    unfolding part_of content_of
    load =
        let room : cost_count excess_workload (part_at I Q (RoomShift r k)) ≡ 0 = refl in
        let cares = cares-none (cost_count excess_workload) (λ x. refl) in
        omega (arith, room, cares)

    numbers-listed : numbers Q ≡ record { v = listed 9 (λ j. choice_by I P r k new Q (rule_count j)); s = listed 8 (λ j. choice_by I P r k new Q (cost_count j)) }
    unfolding numbers part_of content_of
    numbers-listed = counts-same _ _ _ _
        (nine (λ j. choice_by I P r k new Q (rule_count j)) _ _ _ _ _ _ _ _ _
        (by_none (rule_count mixed_gender) refl (λ n. refl) (λ x. refl))
        (by_none (rule_count incompatible_room) refl (λ n. refl) (λ x. refl))
        (by_none (rule_count surgeon_overrun) refl (λ n. refl) (λ x. refl))
        (by_none (rule_count theatre_overrun) refl (λ n. refl) (λ x. refl))
        (by_none (rule_count unscheduled_mandatory) refl (λ n. refl) (λ x. refl))
        (by_none (rule_count admission_window) refl (λ n. refl) (λ x. refl))
        (by_none (rule_count room_capacity) refl (λ n. refl) (λ x. refl))
        (by_room (rule_count nurse_presence) (λ n. refl) (λ x. refl))
        (by_room (rule_count uncovered_room) (λ n. refl) (λ x. refl)))
        (eight (λ j. choice_by I P r k new Q (cost_count j)) _ _ _ _ _ _ _ _
        (by_none (cost_count mixed_age) refl (λ n. refl) (λ x. refl))
        (by_room (cost_count nurse_skill) (λ n. refl) (λ x. refl)) seen load
        (by_none (cost_count open_theatre) refl (λ n. refl) (λ x. refl))
        (by_none (cost_count surgeon_transfer) refl (λ n. refl) (λ x. refl))
        (by_none (cost_count patient_delay) refl (λ n. refl) (λ x. refl))
        (by_none (cost_count unscheduled_optional) refl (λ n. refl) (λ x. refl)))

  numbers-told : sub_bills (as_bill (numbers (put (SetCare r k new) P))) (as_bill (numbers P)) ≡ choice_told I P r k new
  unfolding numbers
  numbers-told = refl

  -- Another nurse for a room's shift, or none, changes the bill by what is told of it.
  pub choice-law : IsPlanOf I P → IsWriteOf I (SetCare r k new) → (care_of P r.0 k.0 ≡ number_of_nurse new → ⊥)
      → change_of_bill I P (put (SetCare r k new) P) ≡ choice_told I P r k new
  choice-law plan fits other =
      let Q = put (SetCare r k new) P in
      let v = differences-same 9 (λ j. choice_by I P r k new Q (rule_count j)) (λ j. choice_by I P r k new P (rule_count j))
      (λ j. total I (λ c. slice_index (part_at I Q c).v j)) (λ j. total I (λ c. slice_index (part_at I P c).v j))
      (λ j. let whole = number-choice I P r k new plan fits (rule_count j) other in omega (arith, whole)) in
      let s = differences-same 8 (λ j. choice_by I P r k new Q (cost_count j)) (λ j. choice_by I P r k new P (cost_count j))
      (λ j. total I (λ c. slice_index (part_at I Q c).s j)) (λ j. total I (λ c. slice_index (part_at I P c).s j))
      (λ j. let whole = number-choice I P r k new plan fits (cost_count j) other in omega (arith, whole)) in
      let changed : sub_bills (as_bill (numbers Q)) (as_bill (numbers P)) ≡ change_of_bill I P Q =
      rw (numbers-listed Q, numbers-listed P, has_parts I P, has_parts I Q) (rw (v, s) refl) in
      sym changed ∙ numbers-told

-- ---- the price of a choice

-- a choice is known by the nurse's number
numbered : (o : Option NurseNo) → option_map (λ (n : ℕ). let a : NurseNo = record { 0 = n } in a) (number_of_nurse o) ≡ o
numbered None = refl
numbered (Some a) = refl

-- two choices that differ have other numbers
pub other-number : (old new : Option NurseNo) → (new ≡ old → ⊥) → number_of_nurse old ≡ number_of_nurse new → ⊥
other-number old new ne e =
    ne (sym (numbered new) ∙ (ap (option_map (λ (n : ℕ). let a : NurseNo = record { 0 = n } in a)) (sym e) ∙ numbered old))

module _ (I : Draft) (P : Timetable) (r : RoomNo) (k : Shift) (new : Option NurseNo) (off uncovered missing seen load : ℤ)
    (valid : IsValid I) (plan : IsPlanOf I P) (fits : IsWriteOf I (SetCare r k new)) (other : care_of P r.0 k.0 ≡ number_of_nurse new → ⊥)
    (off_is : off ≡ increase_by_choice P r k new (λ Q. rule_count nurse_presence (part_at I Q (RoomShift r k))))
    (uncovered_is : uncovered ≡ increase_by_choice P r k new (λ Q. rule_count uncovered_room (part_at I Q (RoomShift r k))))
    (missing_is : missing ≡ increase_by_choice P r k new (λ Q. cost_count nurse_skill (part_at I Q (RoomShift r k))))
    (seen_is : seen ≡ increase_by_choice P r k new (λ Q. seen_by I Q (present I P r.0 (day_of k.0))))
    (load_is : load ≡ increase_by_choice P r k new (λ Q. excess_of I Q k.0 (care_of P r.0 k.0) + excess_of I Q k.0 (number_of_nurse new))) where
  law : change_of_bill I P (put (SetCare r k new) P) ≡ choice_told I P r k new
  law = choice-law I P r k new plan fits other

  small : IsWithin (10 ^ 11) (choice_told I P r k new)
  small = subst (IsWithin (10 ^ 11)) law (change-within I P (put (SetCare r k new) P) valid plan (put-plan I P (SetCare r k new) plan fits))

  -- a number as it is handed on in 64 bits
  passed : (told x : ℤ) → x ≡ told → (neg_ℤ (pos (10 ^ 11)) ≤ℤ told) × (told ≤ℤ pos (10 ^ 11)) → handed x ≡ told
  passed told x e near = ap (λ z. handed z) e ∙ passed-is told near.0 near.1

  -- The numbers that the nurses' ledger tells are what the bill changes by.
  pub choice-priced : (let b : Bill = record {
    v = pos 0 ∷ pos 0 ∷ pos 0 ∷ pos 0 ∷ pos 0 ∷ pos 0 ∷ pos 0 ∷ handed off ∷ handed uncovered ∷ [];
    s = pos 0 ∷ handed missing ∷ handed seen ∷ handed load ∷ pos 0 ∷ pos 0 ∷ pos 0 ∷ pos 0 ∷ [];
  } in b ≡ change_of_bill I P (put (SetCare r k new) P))
  choice-priced =
      let rule_off = passed (place (choice_told I P r k new).v nurse_presence) off off_is (small.v nurse_presence (omega arith)) in
      let rule_alone = passed (place (choice_told I P r k new).v uncovered_room) uncovered uncovered_is (small.v uncovered_room (omega arith)) in
      let skills = passed (place (choice_told I P r k new).s nurse_skill) missing missing_is (small.s nurse_skill (omega arith)) in
      let cares = passed (place (choice_told I P r k new).s continuity_of_care) seen seen_is (small.s continuity_of_care (omega arith)) in
      let loads = passed (place (choice_told I P r k new).s excess_workload) load load_is (small.s excess_workload (omega arith)) in
      rw (rule_off, rule_alone, skills, cares, loads) (sym law)
