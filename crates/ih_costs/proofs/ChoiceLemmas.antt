-- What another choice of nurse changes in a number of the bill, by the cells that it touches.
use Rattle.std.proofs.Common.{◌≡◌, ℕ, ◌+◌, ◌<◌, refl, arith, ap, subst, false, Option, Some, None}
use Rattle.std.specs.Prelude.{◌==◌, ◌||◌, sum_by}
use Rattle.std.proofs.lemmas.Bool.{and_left, and_right}
use Rattle.ih_tables.specs.declared.drafts.Draft.{Draft}
use Rattle.ih_tables.specs.declared.ids.RoomNo.{RoomNo}
use Rattle.ih_tables.specs.declared.ids.Shift.{Shift}
use Rattle.ih_tables.specs.declared.ids.NurseNo.{NurseNo}
use Rattle.ih_tables.specs.declared.cells.Cell.{Cell}
use Rattle.ih_tables.specs.declared.cells.Cell.TheVariants.{RoomShift}
use Rattle.ih_tables.specs.Sizes.{sizes_of, patient_count, person_count, room_count, theatre_count, surgeon_count, nurse_count, shift_count}
use Rattle.ih_plan.specs.declared.moves.Write.TheVariants.{SetCare}
use Rattle.ih_plan.specs.Timetable.{Timetable, IsPlanOf, care_of}
use Rattle.ih_plan.specs.Writes.{put, IsWriteOf}
use Rattle.ih_plan.specs.Presence.{present, day_of, is_present}
use Rattle.ih_plan.specs.Costs.{is_number}
use Rattle.ih_plan.specs.Sums.{sum_below}
use Rattle.ih_plan.specs.BillOf.{Counts}
use Rattle.ih_plan.specs.Cells.{IsCellOf, part_at, part_of}
use Rattle.ih_plan.specs.Footprint.{write_touches, in_choice}
use Rattle.ih_plan.proofs.CellNumbers.{sum_by_kind, stay_cell, room_day_cell, theatre_day_cell, surgeon_day_cell, room_shift_cell, nurse_shift_cell, care_cell}
use Rattle.ih_plan.proofs.Parts.{total}
use Rattle.ih_plan.proofs.SumLemmas.{sum_below-same}
use Rattle.ih_plan.proofs.Entries.{number_of_nurse}
use Rattle.ih_footprint.proofs.Locality.{frame}
use Rattle.ih_costs.proofs.SpanSums.{apart_from, at_place, sum_below-but_places, sum_below-passing, rows-same, rows-but, columns-but}

module _ (I : Draft) (P : Timetable) (r : RoomNo) (k : Shift) (new : Option NurseNo) where
  -- a number of the parts of the old nurse and the new in the shift
  abbrev pub loads_by : Timetable → (Counts → ℕ) → ℕ
  loads_by Q g =
      let load = λ (n : ℕ). g (part_at I Q (nurse_shift_cell n k.0)) in
      at_place load (care_of P r.0 k.0) + at_place load (number_of_nurse new)

  -- the same of who is in the room on that day
  abbrev pub cares_by : Timetable → (Counts → ℕ) → ℕ
  cares_by Q g = sum_by (λ x. g (part_at I Q (care_cell x))) (present I P r.0 (day_of k.0))

  -- the same of all cells of the choice
  abbrev pub choice_by : Timetable → (Counts → ℕ) → ℕ
  choice_by Q g = g (part_at I Q (RoomShift r k)) + loads_by Q g + cares_by Q g

  module _ (plan : IsPlanOf I P) (fits : IsWriteOf I (SetCare r k new)) where
    abbrev chosen : Timetable
    chosen = put (SetCare r k new) P

    -- a cell that the choice doesn't touch
    kept : (g : Counts → ℕ) (c : Cell) → IsCellOf I c → write_touches I P (SetCare r k new) c ≡ false → g (part_at I chosen c) ≡ g (part_at I P c)
    kept g c range apart = ap (λ t. g (part_of I c t)) (frame I P (SetCare r k new) c plan fits range apart)

    stays : (g : Counts → ℕ) → sum_below (patient_count I) (λ i. g (part_at I chosen (stay_cell i))) ≡ sum_below (patient_count I) (λ i. g (part_at I P (stay_cell i)))
    unfolding in_choice
    stays g = sum_below-same (patient_count I) (λ i. g (part_at I chosen (stay_cell i))) (λ i. g (part_at I P (stay_cell i))) (λ i h. kept g (stay_cell i) h refl)

    room_days : (g : Counts → ℕ) → sum_below (room_count I) (λ s. sum_below I.days (λ d. g (part_at I chosen (room_day_cell s d))))
        ≡ sum_below (room_count I) (λ s. sum_below I.days (λ d. g (part_at I P (room_day_cell s d))))
    unfolding in_choice
    room_days g = rows-same (room_count I) I.days (λ s d. g (part_at I chosen (room_day_cell s d))) (λ s d. g (part_at I P (room_day_cell s d)))
        (λ s d h l. kept g (room_day_cell s d) (h, l) refl)

    theatre_days : (g : Counts → ℕ) → sum_below (theatre_count I) (λ t. sum_below I.days (λ d. g (part_at I chosen (theatre_day_cell t d))))
        ≡ sum_below (theatre_count I) (λ t. sum_below I.days (λ d. g (part_at I P (theatre_day_cell t d))))
    unfolding in_choice
    theatre_days g = rows-same (theatre_count I) I.days (λ t d. g (part_at I chosen (theatre_day_cell t d))) (λ t d. g (part_at I P (theatre_day_cell t d)))
        (λ t d h l. kept g (theatre_day_cell t d) (h, l) refl)

    surgeon_days : (g : Counts → ℕ) → sum_below (surgeon_count I) (λ s. sum_below I.days (λ d. g (part_at I chosen (surgeon_day_cell s d))))
        ≡ sum_below (surgeon_count I) (λ s. sum_below I.days (λ d. g (part_at I P (surgeon_day_cell s d))))
    unfolding in_choice
    surgeon_days g = rows-same (surgeon_count I) I.days (λ s d. g (part_at I chosen (surgeon_day_cell s d))) (λ s d. g (part_at I P (surgeon_day_cell s d)))
        (λ s d h l. kept g (surgeon_day_cell s d) (h, l) refl)

    room_shifts : (g : Counts → ℕ) → sum_below (room_count I) (λ s. sum_below (shift_count I) (λ l. g (part_at I chosen (room_shift_cell s l)))) + g (part_at I P (RoomShift r k))
        ≡ sum_below (room_count I) (λ s. sum_below (shift_count I) (λ l. g (part_at I P (room_shift_cell s l)))) + g (part_at I chosen (RoomShift r k))
    unfolding in_choice
    room_shifts g =
        rows-but (room_count I) (shift_count I) r.0 k.0 (λ s l. g (part_at I chosen (room_shift_cell s l))) (λ s l. g (part_at I P (room_shift_cell s l))) fits.0 fits.1
        (λ s l sh lh ne. kept g (room_shift_cell s l) (sh, lh) (and_left (r.0 == s) (k.0 == l) (apart_from r.0 s ne)))
        (λ l lh ne. kept g (room_shift_cell r.0 l) (fits.0, lh) (and_right (r.0 == r.0) (k.0 == l) (apart_from k.0 l ne)))

    -- a nurse who is neither the old one nor the new
    other_nurse : (g : Counts → ℕ) (n : ℕ) → n < nurse_count I → is_number (care_of P r.0 k.0) n ≡ false → is_number (number_of_nurse new) n ≡ false
        → g (part_at I chosen (nurse_shift_cell n k.0)) ≡ g (part_at I P (nurse_shift_cell n k.0))
    unfolding in_choice
    other_nurse g n h old later =
        let neither : (is_number (care_of P r.0 k.0) n || is_number (number_of_nurse new) n) ≡ false = rw (old, later) refl in
        kept g (nurse_shift_cell n k.0) (h, fits.1) (and_right (k.0 == k.0) (is_number (care_of P r.0 k.0) n || is_number (number_of_nurse new) n) neither)

    -- the new nurse is one of the instance's
    new-inside : (n : ℕ) → number_of_nurse new ≡ Some n → n < nurse_count I
    new-inside n = by_case new refl
      where
        by_case : (o : Option NurseNo) → new ≡ o → number_of_nurse o ≡ Some n → n < nurse_count I
        by_case None e h = absurd (let no : None ≡ Some n = h in cc)
        by_case (Some a) e h =
            let same : a.0 ≡ n = (let f : Some a.0 ≡ Some n = h in cc) in
            subst (λ m. m < nurse_count I) same (fits.2 a e)

    nurse_shifts : (g : Counts → ℕ) → (care_of P r.0 k.0 ≡ number_of_nurse new → ⊥)
        → sum_below (nurse_count I) (λ n. sum_below (shift_count I) (λ l. g (part_at I chosen (nurse_shift_cell n l)))) + loads_by P g
        ≡ sum_below (nurse_count I) (λ n. sum_below (shift_count I) (λ l. g (part_at I P (nurse_shift_cell n l)))) + loads_by chosen g
    unfolding in_choice
    nurse_shifts g other =
        columns-but (nurse_count I) (shift_count I) k.0 (λ n l. g (part_at I chosen (nurse_shift_cell n l))) (λ n l. g (part_at I P (nurse_shift_cell n l)))
        (loads_by chosen g) (loads_by P g) fits.1
        (λ n l nh lh ne. kept g (nurse_shift_cell n l) (nh, lh) (and_left (k.0 == l) (is_number (care_of P r.0 k.0) n || is_number (number_of_nurse new) n) (apart_from k.0 l ne)))
        (sum_below-but_places (nurse_count I) (λ n. g (part_at I chosen (nurse_shift_cell n k.0))) (λ n. g (part_at I P (nurse_shift_cell n k.0)))
        (care_of P r.0 k.0) (number_of_nurse new) other (plan.nursed r.0 k.0) new-inside (other_nurse g))

    cares : (g : Counts → ℕ) → sum_below (person_count I) (λ x. g (part_at I chosen (care_cell x))) + cares_by P g
        ≡ sum_below (person_count I) (λ x. g (part_at I P (care_cell x))) + cares_by chosen g
    unfolding in_choice present
    cares g =
        sum_below-passing (person_count I) (λ x. g (part_at I chosen (care_cell x))) (λ x. g (part_at I P (care_cell x))) (is_present I P r.0 (day_of k.0))
        (λ x h apart. kept g (care_cell x) h apart)

    -- a number of the bill changes by that number of the choice's cells
    pub number-choice : (g : Counts → ℕ) → (care_of P r.0 k.0 ≡ number_of_nurse new → ⊥)
        → total I (λ c. g (part_at I chosen c)) + choice_by P g ≡ total I (λ c. g (part_at I P c)) + choice_by chosen g
    number-choice g other =
        let later = sum_by_kind (sizes_of I) (λ c. g (part_at I chosen c)) in
        let old = sum_by_kind (sizes_of I) (λ c. g (part_at I P c)) in
        omega (arith, later, old, stays g, room_days g, theatre_days g, surgeon_days g, room_shifts g, nurse_shifts g other, cares g)
