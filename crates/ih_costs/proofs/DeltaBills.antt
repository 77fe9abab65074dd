-- The law of deltas: what another stay changes in the bill.
use Rattle.std.proofs.Common.{◌≡◌, ℕ, ◌*◌, ◌<◌, refl, arith, ap, sym, subst, ◌∙◌, List, [], ◌∷◌, Option, Some, None, length}
use Rattle.std.specs.Prelude.{ℤ, ◌-ℤ◌, slice_index}
use Rattle.std.proofs.lemmas.Int.{ints}
use Rattle.ih_tables.specs.declared.drafts.Draft.{Draft}
use Rattle.ih_tables.specs.declared.bills.Bill.{Bill}
use Rattle.ih_tables.specs.declared.ids.PatientNo.{PatientNo}
use Rattle.ih_tables.specs.Sizes.{patient_count}
use Rattle.ih_tables.specs.Bills.{at as place, sub_bills}
use Rattle.ih_tables.specs.Listed.{listed}
use Rattle.ih_tables.specs.Valid.{IsValid}
use Rattle.ih_plan.specs.declared.moves.Placement.{Placement}
use Rattle.ih_plan.specs.declared.moves.Write.TheVariants.{SetStay}
use Rattle.ih_plan.specs.Timetable.{Timetable, IsPlanOf, IsPlacement, stay_of, care_of}
use Rattle.ih_plan.specs.Writes.{put, IsWriteOf}
use Rattle.ih_plan.specs.Costs.{surgeon_of}
use Rattle.ih_plan.specs.BillOf.{Counts, as_bill, bill_of, change_of_bill, rule_count, cost_count}
use Rattle.ih_plan.specs.Cells.{part_at, part_of, content_of}
use Rattle.ih_plan.proofs.Entries.{stay_of-same}
use Rattle.ih_plan.proofs.CellNumbers.{stay_cell, room_day_cell, theatre_day_cell, surgeon_day_cell, room_shift_cell, nurse_shift_cell, care_cell}
use Rattle.ih_plan.proofs.Parts.{total, has_parts}
use Rattle.ih_plan.proofs.PlanRanges.{put-plan}
use Rattle.ih_footprint.proofs.LocalPrices.{differences-same}
use Rattle.ih_plan.specs.Presence.{end_of}
use Rattle.ih_tables.specs.BillNumbers.{mixed_gender, incompatible_room, surgeon_overrun, theatre_overrun, unscheduled_mandatory, admission_window, room_capacity, nurse_presence, uncovered_room}
use Rattle.ih_tables.specs.BillNumbers.{mixed_age, nurse_skill, continuity_of_care, excess_workload, open_theatre, surgeon_transfer, patient_delay, unscheduled_optional}
use Rattle.ih_costs.specs.StayDelta.{of_stay, of_care, over_days, of_theatre, of_surgeon, over_shifts, of_nurse, over_loads, delta_of, stay_delta, placement_delta}
use Rattle.ih_plan.proofs.ChangeSums.{change-same, places-by}
use Rattle.ih_costs.proofs.DeltaLemmas.{delta_by, number-delta}
use Rattle.ih_costs.proofs.SpanSums.{span-zero}
use Rattle.ih_costs.proofs.UndoLemmas.{stay-twice, undone}

-- ---- lists of numbers

pub counts-same : (a b c d : List ℕ) → a ≡ c → b ≡ d → (let x : Counts = record { v = a; s = b } in let y : Counts = record { v = c; s = d } in x ≡ y)
counts-same a b c d e f = rw (e, f) refl

pub nine : (f : ℕ → ℕ) (a b c d e h i j k : ℕ) → f 0 ≡ a → f 1 ≡ b → f 2 ≡ c → f 3 ≡ d → f 4 ≡ e → f 5 ≡ h → f 6 ≡ i → f 7 ≡ j → f 8 ≡ k
    → (a ∷ b ∷ c ∷ d ∷ e ∷ h ∷ i ∷ j ∷ k ∷ []) ≡ listed 9 f
nine f a b c d e h i j k e0 e1 e2 e3 e4 e5 e6 e7 e8 = rw (e0, e1, e2, e3, e4, e5, e6, e7, e8) refl

pub eight : (f : ℕ → ℕ) (a b c d e h i j : ℕ) → f 0 ≡ a → f 1 ≡ b → f 2 ≡ c → f 3 ≡ d → f 4 ≡ e → f 5 ≡ h → f 6 ≡ i → f 7 ≡ j
    → (a ∷ b ∷ c ∷ d ∷ e ∷ h ∷ i ∷ j ∷ []) ≡ listed 8 f
eight f a b c d e h i j e0 e1 e2 e3 e4 e5 e6 e7 = rw (e0, e1, e2, e3, e4, e5, e6, e7) refl

-- ---- a number that one kind of cell alone has

module _ (I : Draft) (Q : Timetable) (p : ℕ) (at : Placement) where
  abbrev no_stays : (Counts → ℕ) → Type 0
  no_stays g = (i : ℕ) → g (part_at I Q (stay_cell i)) ≡ 0

  abbrev no_days : (Counts → ℕ) → Type 0
  no_days g = (i j : ℕ) → g (part_at I Q (room_day_cell i j)) ≡ 0

  abbrev no_theatres : (Counts → ℕ) → Type 0
  no_theatres g = (i j : ℕ) → g (part_at I Q (theatre_day_cell i j)) ≡ 0

  abbrev no_surgeons : (Counts → ℕ) → Type 0
  no_surgeons g = (i j : ℕ) → g (part_at I Q (surgeon_day_cell i j)) ≡ 0

  abbrev no_shifts : (Counts → ℕ) → Type 0
  no_shifts g = (i j : ℕ) → g (part_at I Q (room_shift_cell i j)) ≡ 0

  abbrev no_loads : (Counts → ℕ) → Type 0
  no_loads g = (i j : ℕ) → g (part_at I Q (nurse_shift_cell i j)) ≡ 0

  abbrev no_cares : (Counts → ℕ) → Type 0
  no_cares g = (i : ℕ) → g (part_at I Q (care_cell i)) ≡ 0

  days-none : (g : Counts → ℕ) → no_days g → over_days I Q p at g ≡ 0
  days-none g e = span-zero at.day.0 (end_of I p at) (λ d. g (part_at I Q (room_day_cell at.room.0 d))) (e at.room.0)

  theatre-none : (g : Counts → ℕ) → no_theatres g → of_theatre I Q p at g ≡ 0
  theatre-none g e = e at.theatre.0 at.day.0

  surgeon-none : (g : Counts → ℕ) → no_surgeons g → (o : Option ℕ) → of_surgeon I Q p at g o ≡ 0
  surgeon-none g e None = refl
  surgeon-none g e (Some s) = e s at.day.0

  shifts-none : (g : Counts → ℕ) → no_shifts g → over_shifts I Q p at g ≡ 0
  shifts-none g e = span-zero (3 * at.day.0) (3 * end_of I p at) (λ k. g (part_at I Q (room_shift_cell at.room.0 k))) (e at.room.0)

  nurse-none : (g : Counts → ℕ) → no_loads g → (k : ℕ) (o : Option ℕ) → of_nurse I Q p at g k o ≡ 0
  nurse-none g e k None = refl
  nurse-none g e k (Some n) = e n k

  loads-none : (g : Counts → ℕ) → no_loads g → over_loads I Q p at g ≡ 0
  loads-none g e = span-zero (3 * at.day.0) (3 * end_of I p at) (λ k. of_nurse I Q p at g k (care_of Q at.room.0 k)) (λ k. nurse-none g e k (care_of Q at.room.0 k))

  by_stays : (g : Counts → ℕ) → no_days g → no_theatres g → no_surgeons g → no_shifts g → no_loads g → no_cares g
      → delta_by I Q p at g ≡ of_stay I Q p at g
  by_stays g days theatres surgeons shifts loads cares =
      omega (arith, days-none g days, theatre-none g theatres, surgeon-none g surgeons (surgeon_of I p), shifts-none g shifts, loads-none g loads, cares p)

  by_days : (g : Counts → ℕ) → no_stays g → no_theatres g → no_surgeons g → no_shifts g → no_loads g → no_cares g
      → delta_by I Q p at g ≡ over_days I Q p at g
  by_days g stays theatres surgeons shifts loads cares =
      omega (arith, stays p, theatre-none g theatres, surgeon-none g surgeons (surgeon_of I p), shifts-none g shifts, loads-none g loads, cares p)

  by_theatres : (g : Counts → ℕ) → no_stays g → no_days g → no_surgeons g → no_shifts g → no_loads g → no_cares g
      → delta_by I Q p at g ≡ of_theatre I Q p at g
  by_theatres g stays days surgeons shifts loads cares =
      omega (arith, stays p, days-none g days, surgeon-none g surgeons (surgeon_of I p), shifts-none g shifts, loads-none g loads, cares p)

  by_surgeons : (g : Counts → ℕ) → no_stays g → no_days g → no_theatres g → no_shifts g → no_loads g → no_cares g
      → delta_by I Q p at g ≡ of_surgeon I Q p at g (surgeon_of I p)
  by_surgeons g stays days theatres shifts loads cares =
      omega (arith, stays p, days-none g days, theatre-none g theatres, shifts-none g shifts, loads-none g loads, cares p)

  by_shifts : (g : Counts → ℕ) → no_stays g → no_days g → no_theatres g → no_surgeons g → no_loads g → no_cares g
      → delta_by I Q p at g ≡ over_shifts I Q p at g
  by_shifts g stays days theatres surgeons loads cares =
      omega (arith, stays p, days-none g days, theatre-none g theatres, surgeon-none g surgeons (surgeon_of I p), loads-none g loads, cares p)

  by_loads : (g : Counts → ℕ) → no_stays g → no_days g → no_theatres g → no_surgeons g → no_shifts g → no_cares g
      → delta_by I Q p at g ≡ over_loads I Q p at g
  by_loads g stays days theatres surgeons shifts cares =
      omega (arith, stays p, days-none g days, theatre-none g theatres, surgeon-none g surgeons (surgeon_of I p), shifts-none g shifts, cares p)

  by_cares : (g : Counts → ℕ) → no_stays g → no_days g → no_theatres g → no_surgeons g → no_shifts g → no_loads g
      → delta_by I Q p at g ≡ of_care I Q p at g
  by_cares g stays days theatres surgeons shifts loads =
      omega (arith, stays p, days-none g days, theatre-none g theatres, surgeon-none g surgeons (surgeon_of I p), shifts-none g shifts, loads-none g loads)

  -- each number of the delta is that number of all cells of the placement
  pub delta-listed : delta_of I Q p at ≡ record { v = listed 9 (λ j. delta_by I Q p at (rule_count j)); s = listed 8 (λ j. delta_by I Q p at (cost_count j)) }
  unfolding delta_of part_of content_of
  delta-listed = counts-same _ _ _ _
      (nine (λ j. delta_by I Q p at (rule_count j)) _ _ _ _ _ _ _ _ _
      (by_days (rule_count mixed_gender) (λ i. refl) (λ i j. refl) (λ i j. refl) (λ i j. refl) (λ i j. refl) (λ i. refl))
      (by_stays (rule_count incompatible_room) (λ i j. refl) (λ i j. refl) (λ i j. refl) (λ i j. refl) (λ i j. refl) (λ i. refl))
      (by_surgeons (rule_count surgeon_overrun) (λ i. refl) (λ i j. refl) (λ i j. refl) (λ i j. refl) (λ i j. refl) (λ i. refl))
      (by_theatres (rule_count theatre_overrun) (λ i. refl) (λ i j. refl) (λ i j. refl) (λ i j. refl) (λ i j. refl) (λ i. refl))
      (by_stays (rule_count unscheduled_mandatory) (λ i j. refl) (λ i j. refl) (λ i j. refl) (λ i j. refl) (λ i j. refl) (λ i. refl))
      (by_stays (rule_count admission_window) (λ i j. refl) (λ i j. refl) (λ i j. refl) (λ i j. refl) (λ i j. refl) (λ i. refl))
      (by_days (rule_count room_capacity) (λ i. refl) (λ i j. refl) (λ i j. refl) (λ i j. refl) (λ i j. refl) (λ i. refl))
      (by_shifts (rule_count nurse_presence) (λ i. refl) (λ i j. refl) (λ i j. refl) (λ i j. refl) (λ i j. refl) (λ i. refl))
      (by_shifts (rule_count uncovered_room) (λ i. refl) (λ i j. refl) (λ i j. refl) (λ i j. refl) (λ i j. refl) (λ i. refl)))
      (eight (λ j. delta_by I Q p at (cost_count j)) _ _ _ _ _ _ _ _
      (by_days (cost_count mixed_age) (λ i. refl) (λ i j. refl) (λ i j. refl) (λ i j. refl) (λ i j. refl) (λ i. refl))
      (by_shifts (cost_count nurse_skill) (λ i. refl) (λ i j. refl) (λ i j. refl) (λ i j. refl) (λ i j. refl) (λ i. refl))
      (by_cares (cost_count continuity_of_care) (λ i. refl) (λ i j. refl) (λ i j. refl) (λ i j. refl) (λ i j. refl) (λ i j. refl))
      (by_loads (cost_count excess_workload) (λ i. refl) (λ i j. refl) (λ i j. refl) (λ i j. refl) (λ i j. refl) (λ i. refl))
      (by_theatres (cost_count open_theatre) (λ i. refl) (λ i j. refl) (λ i j. refl) (λ i j. refl) (λ i j. refl) (λ i. refl))
      (by_surgeons (cost_count surgeon_transfer) (λ i. refl) (λ i j. refl) (λ i j. refl) (λ i j. refl) (λ i j. refl) (λ i. refl))
      (by_stays (cost_count patient_delay) (λ i j. refl) (λ i j. refl) (λ i j. refl) (λ i j. refl) (λ i j. refl) (λ i. refl))
      (by_stays (cost_count unscheduled_optional) (λ i j. refl) (λ i j. refl) (λ i j. refl) (λ i j. refl) (λ i j. refl) (λ i. refl)))

-- ---- the law of a placement

placement-change : (I : Draft) (P : Timetable) (p : PatientNo) (at : Placement) → IsValid I → IsPlanOf I P → p.0 < patient_count I → IsPlacement I at → stay_of P p.0 ≡ None
    → sub_bills (as_bill (delta_of I (put (SetStay p (Some at)) P) p.0 at)) (as_bill (delta_of I P p.0 at)) ≡ change_of_bill I P (put (SetStay p (Some at)) P)
placement-change I P p at valid plan known fits out =
    let Q = put (SetStay p (Some at)) P in
    let v = differences-same 9 (λ j. delta_by I Q p.0 at (rule_count j)) (λ j. delta_by I P p.0 at (rule_count j))
    (λ j. total I (λ c. slice_index (part_at I Q c).v j)) (λ j. total I (λ c. slice_index (part_at I P c).v j))
    (λ j. let whole = number-delta I P p at valid plan known fits out (rule_count j) in omega (arith, whole)) in
    let s = differences-same 8 (λ j. delta_by I Q p.0 at (cost_count j)) (λ j. delta_by I P p.0 at (cost_count j))
    (λ j. total I (λ c. slice_index (part_at I Q c).s j)) (λ j. total I (λ c. slice_index (part_at I P c).s j))
    (λ j. let whole = number-delta I P p at valid plan known fits out (cost_count j) in omega (arith, whole)) in
    rw (delta-listed I Q p.0 at, delta-listed I P p.0 at, has_parts I P, has_parts I Q) (rw (v, s) refl)

-- A placement changes the bill by its delta, where the patient wasn't admitted before.
pub placement-law : (I : Draft) (P : Timetable) (p : PatientNo) (at : Placement) → IsValid I → IsPlanOf I P → p.0 < patient_count I → IsPlacement I at
    → change_of_bill I (put (SetStay p None) P) (put (SetStay p (Some at)) P) ≡ placement_delta I P p at
placement-law I P p at valid plan known fits =
    let sizes : length P.stays ≡ patient_count I = plan.stays in
    let inside : p.0 < length P.stays = omega arith in
    let without : Timetable = put (SetStay p None) P in
    let fits_without : IsPlanOf I without = put-plan I P (SetStay p None) plan (known, λ at e. absurd (let no : None ≡ Some at = e in cc)) in
    subst (λ (R : Timetable). change_of_bill I without R ≡ sub_bills (as_bill (delta_of I R p.0 at)) (as_bill (delta_of I without p.0 at))) (stay-twice P p None (Some at))
    (sym (placement-change I without p at valid fits_without known fits (stay_of-same P p None inside)))

pub stay-law : (I : Draft) (P : Timetable) (p : PatientNo) (s : Option Placement) → IsValid I → IsPlanOf I P → p.0 < patient_count I
    → ((at : Placement) → s ≡ Some at → IsPlacement I at) → change_of_bill I (put (SetStay p None) P) (put (SetStay p s) P) ≡ stay_delta I P p s
stay-law I P p None valid plan known fits = sym (change-same I (put (SetStay p None) P))
stay-law I P p (Some at) valid plan known fits = placement-law I P p at valid plan known (fits at refl)

-- ---- any two stays

less-less : (a b c : ℤ) → (c -ℤ a) -ℤ (b -ℤ a) ≡ c -ℤ b
less-less a b c = omega (arith, ints)

places-less-less : (m : ℕ) (a b c : ℕ → ℤ) → listed m (λ k. place (listed m (λ k. c k -ℤ a k)) k -ℤ place (listed m (λ k. b k -ℤ a k)) k) ≡ listed m (λ k. c k -ℤ b k)
places-less-less m a b c =
    places-by m (λ x y. x -ℤ y) (λ k. c k -ℤ a k) (λ k. b k -ℤ a k) (λ k. c k -ℤ b k) (λ k. less-less (a k) (b k) (c k))

less-less-bills : (a b c : Bill) → sub_bills (sub_bills c a) (sub_bills b a) ≡ sub_bills c b
less-less-bills a b c =
    let v = places-less-less 9 (λ k. place a.v k) (λ k. place b.v k) (λ k. place c.v k) in
    let s = places-less-less 8 (λ k. place a.s k) (λ k. place b.s k) (λ k. place c.s k) in
    cc

-- two changes from one timetable
change-between : (I : Draft) (P Q R : Timetable) → sub_bills (change_of_bill I P R) (change_of_bill I P Q) ≡ change_of_bill I Q R
change-between I P Q R = less-less-bills (bill_of I P) (bill_of I Q) (bill_of I R)

-- the stay that stands there is written again
pub stay-again : (P : Timetable) (p : PatientNo) → put (SetStay p (stay_of P p.0)) P ≡ P
stay-again P p = sym (stay-twice P p None (stay_of P p.0)) ∙ undone P (SetStay p None)

-- Another stay, or none, changes the bill by its delta less the delta of the old one.
pub two-stays : (I : Draft) (P : Timetable) (p : PatientNo) (new : Option Placement) → IsValid I → IsPlanOf I P → IsWriteOf I (SetStay p new)
    → change_of_bill I P (put (SetStay p new) P) ≡ sub_bills (stay_delta I P p new) (stay_delta I P p (stay_of P p.0))
two-stays I P p new valid plan fits =
    let without : Timetable = put (SetStay p None) P in
    let later = stay-law I P p new valid plan fits.0 fits.1 in
    let before = stay-law I P p (stay_of P p.0) valid plan fits.0 (plan.placed p.0) in
    let old : change_of_bill I without P ≡ stay_delta I P p (stay_of P p.0) =
    subst (λ (R : Timetable). change_of_bill I without R ≡ stay_delta I P p (stay_of P p.0)) (stay-again P p) before in
    sym (change-between I without P (put (SetStay p new) P))
    ∙ (ap (λ b. sub_bills b (change_of_bill I without P)) later ∙ ap (sub_bills (stay_delta I P p new)) old)
