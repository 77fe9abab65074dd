-- What a placement changes in the bill is its delta: the parts of its cells, summed over its days and shifts.
use Rattle.std.proofs.Common.{◌≡◌, ℕ, ◌+◌, ◌*◌, ◌<◌, ◌≤◌, refl, arith, ap, subst, ◌∙◌, Bool, false, Option, Some, None}
use Rattle.std.specs.Prelude.{◌||◌, ◌==◌, min, nat_le, nat_lt, option_map, slice_get}
use Rattle.std.proofs.lemmas.Bool.{and_left, and_right, lt-leb, le-ltb}
use Rattle.ih_tables.specs.declared.drafts.Draft.{Draft}
use Rattle.ih_tables.specs.declared.drafts.Patient.{Patient}
use Rattle.ih_tables.specs.declared.ids.PatientNo.{PatientNo}
use Rattle.ih_tables.specs.declared.cells.Cell.{Cell}
use Rattle.ih_tables.specs.Sizes.{sizes_of, patient_count, person_count, room_count, theatre_count, surgeon_count, nurse_count, shift_count}
use Rattle.ih_tables.specs.Valid.{IsValid, IsPatient}
use Rattle.ih_plan.specs.declared.moves.Placement.{Placement}
use Rattle.ih_plan.specs.declared.moves.Write.TheVariants.{SetStay}
use Rattle.ih_plan.specs.Timetable.{Timetable, IsPlanOf, IsPlacement, stay_of, care_of}
use Rattle.ih_plan.specs.Writes.{put}
use Rattle.ih_plan.specs.Persons.{person_of}
use Rattle.ih_plan.specs.Presence.{covers, day_of, end_of}
use Rattle.ih_plan.specs.Costs.{surgeon_of, is_number}
use Rattle.ih_plan.specs.Sums.{sum_below}
use Rattle.ih_plan.specs.BillOf.{Counts}
use Rattle.ih_plan.specs.Cells.{part_at, part_of}
use Rattle.ih_plan.specs.Footprint.{write_touches, in_stay, in_placement, is_own}
use Rattle.ih_plan.proofs.CellNumbers.{sum_by_kind, stay_cell, room_day_cell, theatre_day_cell, surgeon_day_cell, room_shift_cell, nurse_shift_cell, care_cell}
use Rattle.ih_plan.proofs.Overtime.{from-all}
use Rattle.ih_plan.proofs.Parts.{total}
use Rattle.ih_plan.proofs.SumLemmas.{sum_below-same, sum_below-but}
use Rattle.ih_footprint.proofs.FrameStay.{frame_stay}
use Rattle.ih_costs.specs.StayDelta.{of_stay, of_care, over_days, of_theatre, of_surgeon, over_shifts, of_nurse, over_loads}
use Rattle.ih_costs.proofs.SpanSums.{apart_from, rows-but, rows-but_span, columns-but_span}

-- ---- which days and shifts a stay has

all_false : (a b c : Bool) → a ≡ false → b ≡ false → c ≡ false → (a || b || c) ≡ false
all_false a b c e f g = rw (e, f, g) refl

not_before : (a n d : ℕ) → d < a → covers a n d ≡ false
not_before a n d h = and_left (nat_le a d) (nat_lt d (a + n)) (lt-leb a d h)

not_behind : (a n days d : ℕ) → min (a + n) days ≤ d → d < days → covers a n d ≡ false
not_behind a n days d h l =
    let past : a + n ≤ d = omega arith in
    and_right (nat_le a d) (nat_lt d (a + n)) (le-ltb d (a + n) past)

day_before : (a k : ℕ) → k < 3 * a → day_of k < a
day_before a k h = omega arith

day_behind : (b k : ℕ) → 3 * b ≤ k → b ≤ day_of k
day_behind b k h = omega arith

day_within : (days k : ℕ) → k < 3 * days → day_of k < days
day_within days k h = omega arith

-- a patient's surgeon is one of the instance's
pub surgeon-in : (I : Draft) (p s : ℕ) → IsValid I → surgeon_of I p ≡ Some s → s < surgeon_count I
surgeon-in I p s valid = by_case (slice_get I.patients p) refl
  where
    by_case : (o : Option Patient) → slice_get I.patients p ≡ o → option_map (λ (a : Patient). a.surgeon_id.0) o ≡ Some s → s < surgeon_count I
    by_case None e h = absurd (let no : None ≡ Some s = h in cc)
    by_case (Some a) e h =
        let same : a.surgeon_id.0 ≡ s = (let f : Some a.surgeon_id.0 ≡ Some s = h in cc) in
        subst (λ n. n < surgeon_count I) same (from-all (IsPatient I) I.patients p a valid.each_patient e).surgeon

-- ---- a number of the bill, kind of cell by kind of cell

-- the same number of the parts of all of a placement's cells
abbrev pub delta_by : Draft → Timetable → ℕ → Placement → (Counts → ℕ) → ℕ
delta_by I Q p at g =
    of_stay I Q p at g + over_days I Q p at g + of_theatre I Q p at g + of_surgeon I Q p at g (surgeon_of I p)
    + over_shifts I Q p at g + over_loads I Q p at g + of_care I Q p at g

module _ (I : Draft) (P : Timetable) (p : PatientNo) (at : Placement) (valid : IsValid I) (plan : IsPlanOf I P) (known : p.0 < patient_count I)
    (fits : IsPlacement I at) (out : stay_of P p.0 ≡ None) where
  abbrev placed : Timetable
  placed = put (SetStay p (Some at)) P

  abbrev days : ℕ
  days = (person_of I p.0).length_of_stay

  -- a cell that isn't the placement's, nor the patient's own
  kept : (g : Counts → ℕ) (c : Cell) → is_own p.0 c ≡ false → in_placement I P p.0 at c ≡ false → g (part_at I placed c) ≡ g (part_at I P c)
  kept g c own there =
      let old : in_stay I P p.0 (stay_of P p.0) c ≡ false = ap (λ s. in_stay I P p.0 s c) out in
      let apart : write_touches I P (SetStay p (Some at)) c ≡ false = all_false (is_own p.0 c) (in_stay I P p.0 (stay_of P p.0) c) (in_placement I P p.0 at c) own old there in
      ap (λ t. g (part_of I c t)) (frame_stay I P p (Some at) plan known c apart)

  stays : (g : Counts → ℕ) → sum_below (patient_count I) (λ i. g (part_at I placed (stay_cell i))) + of_stay I P p.0 at g
      ≡ sum_below (patient_count I) (λ i. g (part_at I P (stay_cell i))) + of_stay I placed p.0 at g
  unfolding in_placement
  stays g = sum_below-but (patient_count I) p.0 (λ i. g (part_at I placed (stay_cell i))) (λ i. g (part_at I P (stay_cell i))) known
      (λ i h ne. kept g (stay_cell i) (apart_from p.0 i ne) refl)

  cares : (g : Counts → ℕ) → sum_below (person_count I) (λ i. g (part_at I placed (care_cell i))) + of_care I P p.0 at g
      ≡ sum_below (person_count I) (λ i. g (part_at I P (care_cell i))) + of_care I placed p.0 at g
  unfolding in_placement
  cares g = sum_below-but (person_count I) p.0 (λ i. g (part_at I placed (care_cell i))) (λ i. g (part_at I P (care_cell i))) (omega arith)
      (λ i h ne. kept g (care_cell i) (apart_from p.0 i ne) refl)

  room_days : (g : Counts → ℕ) → sum_below (room_count I) (λ r. sum_below I.days (λ d. g (part_at I placed (room_day_cell r d)))) + over_days I P p.0 at g
      ≡ sum_below (room_count I) (λ r. sum_below I.days (λ d. g (part_at I P (room_day_cell r d)))) + over_days I placed p.0 at g
  unfolding in_placement
  room_days g =
      let day = fits.day in
      rows-but_span (room_count I) I.days at.room.0 at.day.0 (end_of I p.0 at) (λ r d. g (part_at I placed (room_day_cell r d))) (λ r d. g (part_at I P (room_day_cell r d))) fits.room
      (omega arith) (omega arith)
      (λ r d rh dh ne. kept g (room_day_cell r d) refl (and_left (at.room.0 == r) (covers at.day.0 days d) (apart_from at.room.0 r ne)))
      (λ d h. kept g (room_day_cell at.room.0 d) refl (and_right (at.room.0 == at.room.0) (covers at.day.0 days d) (not_before at.day.0 days d h)))
      (λ d h l. kept g (room_day_cell at.room.0 d) refl (and_right (at.room.0 == at.room.0) (covers at.day.0 days d) (not_behind at.day.0 days I.days d h l)))

  theatre_days : (g : Counts → ℕ) → sum_below (theatre_count I) (λ t. sum_below I.days (λ d. g (part_at I placed (theatre_day_cell t d)))) + of_theatre I P p.0 at g
      ≡ sum_below (theatre_count I) (λ t. sum_below I.days (λ d. g (part_at I P (theatre_day_cell t d)))) + of_theatre I placed p.0 at g
  unfolding in_placement
  theatre_days g =
      rows-but (theatre_count I) I.days at.theatre.0 at.day.0 (λ t d. g (part_at I placed (theatre_day_cell t d))) (λ t d. g (part_at I P (theatre_day_cell t d))) fits.theatre fits.day
      (λ t d th dh ne. kept g (theatre_day_cell t d) refl (and_left (at.theatre.0 == t) (at.day.0 == d) (apart_from at.theatre.0 t ne)))
      (λ d h ne. kept g (theatre_day_cell at.theatre.0 d) refl (and_right (at.theatre.0 == at.theatre.0) (at.day.0 == d) (apart_from at.day.0 d ne)))

  surgeon_days : (g : Counts → ℕ) → sum_below (surgeon_count I) (λ s. sum_below I.days (λ d. g (part_at I placed (surgeon_day_cell s d)))) + of_surgeon I P p.0 at g (surgeon_of I p.0)
      ≡ sum_below (surgeon_count I) (λ s. sum_below I.days (λ d. g (part_at I P (surgeon_day_cell s d)))) + of_surgeon I placed p.0 at g (surgeon_of I p.0)
  unfolding in_placement
  surgeon_days g = by_case (surgeon_of I p.0) refl
    where
      no_surgeon : (o : Option ℕ) → surgeon_of I p.0 ≡ o → (s d : ℕ) → is_number o s ≡ false → g (part_at I placed (surgeon_day_cell s d)) ≡ g (part_at I P (surgeon_day_cell s d))
      no_surgeon o e s d h = kept g (surgeon_day_cell s d) refl (and_left (is_number (surgeon_of I p.0) s) (at.day.0 == d) (ap (λ o. is_number o s) e ∙ h))

      by_case : (o : Option ℕ) → surgeon_of I p.0 ≡ o → sum_below (surgeon_count I) (λ s. sum_below I.days (λ d. g (part_at I placed (surgeon_day_cell s d)))) + of_surgeon I P p.0 at g o
          ≡ sum_below (surgeon_count I) (λ s. sum_below I.days (λ d. g (part_at I P (surgeon_day_cell s d)))) + of_surgeon I placed p.0 at g o
      by_case None e =
          let same = sum_below-same (surgeon_count I) (λ s. sum_below I.days (λ d. g (part_at I placed (surgeon_day_cell s d)))) (λ s. sum_below I.days (λ d. g (part_at I P (surgeon_day_cell s d))))
          (λ s h. sum_below-same I.days (λ d. g (part_at I placed (surgeon_day_cell s d))) (λ d. g (part_at I P (surgeon_day_cell s d))) (λ d l. no_surgeon None e s d refl)) in
          ap (λ n. n + 0) same
      by_case (Some t) e =
          rows-but (surgeon_count I) I.days t at.day.0 (λ s d. g (part_at I placed (surgeon_day_cell s d))) (λ s d. g (part_at I P (surgeon_day_cell s d))) (surgeon-in I p.0 t valid e) fits.day
          (λ s d sh dh ne. no_surgeon (Some t) e s d (apart_from t s ne))
          (λ d h ne. kept g (surgeon_day_cell t d) refl (and_right (is_number (surgeon_of I p.0) t) (at.day.0 == d) (apart_from at.day.0 d ne)))

  room_shifts : (g : Counts → ℕ) → sum_below (room_count I) (λ r. sum_below (shift_count I) (λ k. g (part_at I placed (room_shift_cell r k)))) + over_shifts I P p.0 at g
      ≡ sum_below (room_count I) (λ r. sum_below (shift_count I) (λ k. g (part_at I P (room_shift_cell r k)))) + over_shifts I placed p.0 at g
  unfolding in_placement
  room_shifts g =
      let day = fits.day in
      rows-but_span (room_count I) (shift_count I) at.room.0 (3 * at.day.0) (3 * end_of I p.0 at) (λ r k. g (part_at I placed (room_shift_cell r k)))
      (λ r k. g (part_at I P (room_shift_cell r k))) fits.room
      (omega arith) (omega arith)
      (λ r k rh kh ne. kept g (room_shift_cell r k) refl (and_left (at.room.0 == r) (covers at.day.0 days (day_of k)) (apart_from at.room.0 r ne)))
      (λ k h. kept g (room_shift_cell at.room.0 k) refl (and_right (at.room.0 == at.room.0) (covers at.day.0 days (day_of k)) (not_before at.day.0 days (day_of k) (day_before at.day.0 k h))))
      (λ k h l. kept g (room_shift_cell at.room.0 k) refl (and_right (at.room.0 == at.room.0) (covers at.day.0 days (day_of k))
      (not_behind at.day.0 days I.days (day_of k) (day_behind (end_of I p.0 at) k h) (day_within I.days k l))))

  -- a nurse in a shift, where the room has another or none
  other_nurse : (g : Counts → ℕ) (k : ℕ) (o : Option ℕ) → care_of P at.room.0 k ≡ o → (n : ℕ) → is_number o n ≡ false
      → g (part_at I placed (nurse_shift_cell n k)) ≡ g (part_at I P (nurse_shift_cell n k))
  unfolding in_placement
  other_nurse g k o e n h = kept g (nurse_shift_cell n k) refl (and_left (is_number (care_of P at.room.0 k) n) (covers at.day.0 days (day_of k)) (ap (λ o. is_number o n) e ∙ h))

  one_shift : (g : Counts → ℕ) (k : ℕ) (o : Option ℕ) → care_of P at.room.0 k ≡ o
      → sum_below (nurse_count I) (λ n. g (part_at I placed (nurse_shift_cell n k))) + of_nurse I P p.0 at g k o
      ≡ sum_below (nurse_count I) (λ n. g (part_at I P (nurse_shift_cell n k))) + of_nurse I placed p.0 at g k o
  one_shift g k None e =
      ap (λ n. n + 0) (sum_below-same (nurse_count I) (λ n. g (part_at I placed (nurse_shift_cell n k))) (λ n. g (part_at I P (nurse_shift_cell n k))) (λ n h. other_nurse g k None e n refl))
  one_shift g k (Some m) e =
      sum_below-but (nurse_count I) m (λ n. g (part_at I placed (nurse_shift_cell n k))) (λ n. g (part_at I P (nurse_shift_cell n k))) (plan.nursed at.room.0 k m e)
      (λ n h ne. other_nurse g k (Some m) e n (apart_from m n ne))

  nurse_shifts : (g : Counts → ℕ) → sum_below (nurse_count I) (λ n. sum_below (shift_count I) (λ k. g (part_at I placed (nurse_shift_cell n k)))) + over_loads I P p.0 at g
      ≡ sum_below (nurse_count I) (λ n. sum_below (shift_count I) (λ k. g (part_at I P (nurse_shift_cell n k)))) + over_loads I placed p.0 at g
  unfolding in_placement
  nurse_shifts g =
      let day = fits.day in
      columns-but_span (nurse_count I) (shift_count I) (3 * at.day.0) (3 * end_of I p.0 at) (λ n k. g (part_at I placed (nurse_shift_cell n k))) (λ n k. g (part_at I P (nurse_shift_cell n k)))
      (λ k. of_nurse I placed p.0 at g k (care_of P at.room.0 k)) (λ k. of_nurse I P p.0 at g k (care_of P at.room.0 k))
      (omega arith) (omega arith)
      (λ n k nh h. kept g (nurse_shift_cell n k) refl
      (and_right (is_number (care_of P at.room.0 k) n) (covers at.day.0 days (day_of k)) (not_before at.day.0 days (day_of k) (day_before at.day.0 k h))))
      (λ n k nh h l. kept g (nurse_shift_cell n k) refl (and_right (is_number (care_of P at.room.0 k) n) (covers at.day.0 days (day_of k))
      (not_behind at.day.0 days I.days (day_of k) (day_behind (end_of I p.0 at) k h) (day_within I.days k l))))
      (λ k h l. one_shift g k (care_of P at.room.0 k) refl)

  -- a number of the bill changes by that number of the delta
  pub number-delta : (g : Counts → ℕ) → total I (λ c. g (part_at I placed c)) + delta_by I P p.0 at g ≡ total I (λ c. g (part_at I P c)) + delta_by I placed p.0 at g
  number-delta g =
      let new = sum_by_kind (sizes_of I) (λ c. g (part_at I placed c)) in
      let old = sum_by_kind (sizes_of I) (λ c. g (part_at I P c)) in
      omega (arith, new, old, stays g, room_days g, theatre_days g, surgeon_days g, room_shifts g, nurse_shifts g, cares g)
