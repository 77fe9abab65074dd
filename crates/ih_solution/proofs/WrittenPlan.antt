-- The rows of a written solution file give the timetable that was written.
use Rattle.std.proofs.Common.{◌≡◌, ℕ, ◌+◌, ◌*◌, ◌/◌, ◌%◌, ◌<◌, ◌≤◌, refl, arith, sym, ap, ◌∙◌, Bool, true, false, List, [], ◌∷◌, inl, inr, map, Option, Some, None, mul_comm}
use Rattle.std.specs.Prelude.{◌==◌, ◌&&◌, ◌||◌, not, is_some, find, option_map, option_and_then}
use Rattle.std.specs.List.{list_any}
use Rattle.std.proofs.lemmas.Bool.{cases_eq, eq-eqb, ne_eqb, eqb-true}
use Rattle.std.proofs.lemmas.List.Folds.{list_any_none}
use Rattle.std.proofs.lemmas.List.FromFn.{fill_by_all, length-map-range_with_len, get_or-map-range_with_len}
use Rattle.std.proofs.lemmas.Option.{slice_get-get_or}
use Rattle.std.proofs.lemmas.Nat.{div-add-mod'}
use Rattle.ih_tables.specs.declared.drafts.Draft.{Draft}
use Rattle.ih_tables.specs.declared.ids.RoomNo.{RoomNo}
use Rattle.ih_tables.specs.declared.ids.NurseNo.{NurseNo}
use Rattle.ih_tables.specs.Sizes.{patient_count, room_count, shift_count, nurse_count}
use Rattle.ih_plan.specs.declared.moves.Placement.{Placement}
use Rattle.ih_plan.specs.Costs.{is_number, is_empty}
use Rattle.ih_tables.specs.Listed.{listed}
use Rattle.ih_plan.specs.Timetable.{Timetable, IsPlanOf, stay_of, choice_of, care_of}
use Rattle.ih_plan.proofs.ListedBelow.{has, has-which_below, which_below-has}
use Rattle.ih_solution.specs.Solution.{rooms_of, shifts_with_rooms}
use Rattle.ih_solution.specs.Reading.{have, has_nurse, nurse_in, stay_in, stays_of, cares_of, timetable_of}
use Rattle.ih_solution.specs.declared.reader.rows.ListedStay.{ListedStay}
use Rattle.ih_solution.specs.declared.reader.rows.ListedNurse.{ListedNurse}
use Rattle.ih_solution.proofs.EachReads.{find-listed}
use Rattle.ih_solution.proofs.Timetables.{find_none, listed-same}
use Rattle.ih_solution.proofs.Grids.{grid-same, choice-grid}
use Rattle.ih_solution.proofs.RowsRead.{stay_row, assignment_row, nurse_as}

-- ---- who has a room in a shift

any-rooms : (r : ℕ) (xs : List ℕ) → list_any (λ (x : RoomNo). x.0 == r) (map (λ x. record { 0 = x }) xs) ≡ has r xs
any-rooms r [] = refl
any-rooms r (x ∷ xs) = rw (any-rooms r xs) refl

either : (a b : Bool) → (a || (b && a)) ≡ a
either true b = refl
either false true = refl
either false false = refl

any-shifts : (I : Draft) (P : Timetable) (n r k : ℕ) (xs : List ℕ) → have (map (assignment_row I P n) xs) r k ≡ has k xs && has r (rooms_of I P n k)
any-shifts I P n r k [] = refl
any-shifts I P n r k (x ∷ xs) = elim (cases_eq x k) [
  | inl same ↦
      let rest = any-shifts I P n r k xs in
      let here : list_any (λ (y : RoomNo). y.0 == r) (map (λ y. record { 0 = y }) (rooms_of I P n x))
      ≡ has r (rooms_of I P n k) = any-rooms r (rooms_of I P n x) ∙ ap (λ y. has r (rooms_of I P n y)) same in
      rw (eq-eqb x k same, here, rest) (either (has r (rooms_of I P n k)) (has k xs))
  | inr differ ↦ rw (ne_eqb x k differ) (any-shifts I P n r k xs)
]

some_there : (r : ℕ) (xs : List ℕ) → not (is_empty xs) && has r xs ≡ has r xs
some_there r [] = refl
some_there r (x ∷ xs) = refl

-- nurse n's row has the rooms and shifts of which n is the nurse
row-has : (I : Draft) (P : Timetable) (n r k : ℕ) → r < room_count I → k < shift_count I → have (nurse_as I P n).assignments r k ≡ is_number (care_of P r k) n
unfolding rooms_of shifts_with_rooms
row-has I P n r k rh kh =
    any-shifts I P n r k (shifts_with_rooms I P n)
    ∙ rw (has-which_below (shift_count I) k (λ j. not (is_empty (rooms_of I P n j))) kh) (some_there r (rooms_of I P n k))
    ∙ has-which_below (room_count I) r (λ s. is_number (care_of P s k) n) rh

number-is : (o : Option ℕ) (n : ℕ) → is_number o n ≡ true → o ≡ Some n
number-is None n h = absurd (let no : false ≡ true = h in cc)
number-is (Some m) n h = ap Some (eqb-true m n h)

none-has : (I : Draft) (P : Timetable) (n r k : ℕ) → r < room_count I → k < shift_count I → ((m : ℕ) → m < n → is_number (care_of P r k) m ≡ false)
    → find (λ (row : ListedNurse). have row.assignments r k) (listed n (nurse_as I P)) ≡ None
none-has I P n r k rh kh others = find_none (λ (row : ListedNurse). have row.assignments r k) (listed n (nurse_as I P))
    (list_any_none (λ (row : ListedNurse). have row.assignments r k) (listed n (nurse_as I P)) (λ i d l.
    let below : i < n = omega (arith, l, length-map-range_with_len (nurse_as I P) 0 n) in
    rw (get_or-map-range_with_len (nurse_as I P) 0 n i i d below (omega arith), row-has I P i r k rh kh) (others i below)))

-- nurse n's rooms have none of the nurses before
pub rooms-free : (I : Draft) (P : Timetable) (n k : ℕ) → k < shift_count I → (r : ℕ) → has r (rooms_of I P n k) ≡ true
    → (r < room_count I) × (has_nurse (timetable_of I [] (listed n (nurse_as I P))) r k ≡ false)
unfolding rooms_of cares_of
rooms-free I P n k kh r h =
    let there = which_below-has (room_count I) r (λ s. is_number (care_of P s k) n) h in
    let own : care_of P r k ≡ Some n = number-is (care_of P r k) n there.1 in
    let none = none-has I P n r k there.0 kh (λ m l. rw own (ne_eqb n m (λ e. omega arith))) in
    (there.0, ap is_some (choice-grid I (stays_of I []) (nurse_in (listed n (nurse_as I P))) r k there.0 kh ∙ ap (option_map (λ (row : ListedNurse). row.nurse)) none))

nurse-found : (I : Draft) (P : Timetable) (r k : ℕ) → IsPlanOf I P → r < room_count I → k < shift_count I → nurse_in (listed (nurse_count I) (nurse_as I P)) r k ≡ choice_of P r k
nurse-found I P r k plan rh kh = by_case (choice_of P r k) refl
  where
    by_case : (o : Option NurseNo) → choice_of P r k ≡ o → nurse_in (listed (nurse_count I) (nurse_as I P)) r k ≡ o
    by_case None e =
        let care : care_of P r k ≡ None = ap (option_map (λ (n : NurseNo). n.0)) e in
        ap (option_map (λ (row : ListedNurse). row.nurse)) (none-has I P (nurse_count I) r k rh kh (λ m l. rw care refl))
    by_case (Some n) e =
        let care : care_of P r k ≡ Some n.0 = ap (option_map (λ (n : NurseNo). n.0)) e in
        let inside : n.0 < nurse_count I = plan.nursed r k n.0 care in
        ap (option_map (λ (row : ListedNurse). row.nurse)) (find-listed (λ (row : ListedNurse). have row.assignments r k) (nurse_as I P) (nurse_count I) n.0 inside
        (row-has I P n.0 r k rh kh ∙ rw care (eq-eqb n.0 n.0 refl))
        (λ i l differ. row-has I P i r k rh kh ∙ rw care (ne_eqb n.0 i (λ e. differ (sym e)))))

-- ---- the whole

same-cares : (I : Draft) (P : Timetable) → 1 ≤ I.days → IsPlanOf I P → cares_of I (listed (nurse_count I) (nurse_as I P)) ≡ P.cares
unfolding cares_of
same-cares I P some plan =
    let S = shift_count I in
    let all = fill_by_all (λ i. choice_of P (i / S) (i % S)) P.cares (S * room_count I) None plan.cares (λ i h.
    let width : P.shifts ≡ S = plan.shifts in
    let place : P.shifts * (i / S) + i % S ≡ i = rw (width, mul_comm S (i / S)) (div-add-mod' i S) in
    let there = slice_get-get_or P.cares i None (rw plan.cares h) in
    rw place (sym (ap (option_and_then (λ (c : Option NurseNo). c)) there))) in
    grid-same I (nurse_in (listed (nurse_count I) (nurse_as I P))) (choice_of P) some (λ r k rh kh. nurse-found I P r k plan rh kh) ∙ sym all

same-stays : (I : Draft) (P : Timetable) → IsPlanOf I P → stays_of I (listed (patient_count I) (stay_row P)) ≡ P.stays
unfolding stays_of
same-stays I P plan =
    let n = patient_count I in
    let all = fill_by_all (stay_of P) P.stays n None plan.stays (λ p h. sym (ap (option_and_then (λ (s : Option Placement). s)) (slice_get-get_or P.stays p None (rw plan.stays h)))) in
    listed-same n (stay_in (listed n (stay_row P))) (stay_of P) (λ p h.
    ap (option_and_then (λ (row : ListedStay). row.stay)) (find-listed (λ (row : ListedStay). row.patient.0 == p) (stay_row P) n p h (eq-eqb p p refl) (λ i l differ. ne_eqb i p differ))) ∙ sym all

pub same-timetable : (I : Draft) (P : Timetable) → 1 ≤ I.days → IsPlanOf I P → timetable_of I (listed (patient_count I) (stay_row P)) (listed (nurse_count I) (nurse_as I P)) ≡ P
same-timetable I P some plan =
    ap (λ (s : List (Option Placement)). record { stays = s; cares = cares_of I (listed (nurse_count I) (nurse_as I P)); shifts = shift_count I }) (same-stays I P plan)
    ∙ ap (λ (c : List (Option NurseNo)). record { stays = P.stays; cares = c; shifts = shift_count I }) (same-cares I P some plan)
    ∙ ap (λ k. record P { shifts = k }) (sym plan.shifts)
