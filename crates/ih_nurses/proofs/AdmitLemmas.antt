-- What the admission of one patient makes of who is present and of the nurses' loads.
use Rattle.std.proofs.Common.{◌≡◌, ℕ, ◌+◌, ◌-◌, ◌*◌, ◌<◌, ◌≤◌, refl, arith, sym, ap, ◌∙◌, Bool, true, false, inl, inr, Some, None}
use Rattle.std.specs.Prelude.{if◌then◌else◌, ◌&&◌, ◌||◌, ◌==◌, slice_index}
use Rattle.std.proofs.lemmas.Bool.{cases_eq, eq-eqb, ne_eqb, and_right}
use Rattle.ih_tables.specs.declared.drafts.Draft.{Draft}
use Rattle.ih_tables.specs.Sizes.{patient_count, person_count, room_count}
use Rattle.ih_tables.specs.Valid.{IsValid}
use Rattle.ih_plan.specs.declared.moves.Placement.{Placement}
use Rattle.ih_plan.specs.Timetable.{Timetable, IsPlacement, stay_of, care_of}
use Rattle.ih_plan.specs.Persons.{person_of}
use Rattle.ih_plan.specs.Presence.{admission_of, is_present, covers, day_of, entry_of, workload_of}
use Rattle.ih_plan.specs.Costs.{load_of, is_number}
use Rattle.ih_plan.specs.Sums.{sum_below}
use Rattle.ih_plan.proofs.SumLemmas.{sum_below-but, sum_below-same, sum_below-le}
use Rattle.ih_plan.proofs.SumBounds.{sum_below-le_each, sum_below-swap}
use Rattle.ih_plan.proofs.Loads.{person_load, room_load, nurse_load, room_load-sum}
use Rattle.ih_plan.proofs.Entries.{admission-patient, admission-same}
use Rattle.ih_plan.proofs.Overtime.{if-both, one_room, workload-most}
use Rattle.ih_plan.proofs.Whereabouts.{nowhere, somewhere}
use Rattle.ih_plan.proofs.TestLemmas.{if-most}
use Rattle.ih_nurses.specs.Loads.{stay_load}
use Rattle.ih_links.proofs.Ties.{or-false}
use Rattle.ih_plan.proofs.BillBounds.{few-persons}

-- Q is P with patient p admitted.
pub record IsAdmission (I : Draft) (P Q : Timetable) (p : ℕ) (at : Placement) : Type 0 where
  pub patient : p < patient_count I
  pub placed : IsPlacement I at
  pub before : stay_of P p ≡ None
  pub after : stay_of Q p ≡ Some at
  pub others : (x : ℕ) → (x ≡ p → ⊥) → stay_of Q x ≡ stay_of P x
  pub cares : (r k : ℕ) → care_of Q r k ≡ care_of P r k

-- what the stay gives in shift k to whoever nurses it
abbrev given : Draft → ℕ → Placement → ℕ → ℕ
given I p at k = if covers at.day.0 (person_of I p).length_of_stay (day_of k) then slice_index (person_of I p).workload (k - 3 * at.day.0) else 0

if-sum : (b : Bool) (x y : ℕ) → (if b then x + y else 0) ≡ (if b then x else 0) + (if b then y else 0)
if-sum true x y = refl
if-sum false x y = omega arith

module _ {I : Draft} {P Q : Timetable} {p : ℕ} {at : Placement} (a : IsAdmission I P Q p at) where
  same : (x : ℕ) → (x ≡ p → ⊥) → admission_of I Q x ≡ admission_of I P x
  same x ne = admission-same I Q P x (a.others x ne)

  pub present-more : (r d x : ℕ) → is_present I Q r d x ≡ (is_present I P r d x || ((at.room.0 == r) && (covers at.day.0 (person_of I p).length_of_stay d && (p == x))))
  present-more r d x = elim (cases_eq x p) [
    | inl e ↦ rw (e, somewhere I Q p r d at a.patient a.after, nowhere I P p r d a.patient a.before, eq-eqb p p refl) (by_case (at.room.0 == r) (covers at.day.0 (person_of I p).length_of_stay d))
    | inr ne ↦
        rw (same x ne, ne_eqb p x (λ e. ne (sym e)))
        (sym (or-false (is_present I P r d x) ((at.room.0 == r) && (covers at.day.0 (person_of I p).length_of_stay d && false))
        (and_right (at.room.0 == r) (covers at.day.0 (person_of I p).length_of_stay d && false) (and_right (covers at.day.0 (person_of I p).length_of_stay d) false refl))))
  ]
    where
      by_case : (b c : Bool) → (b && c) ≡ (false || (b && (c && true)))
      by_case false c = refl
      by_case true false = refl
      by_case true true = refl

  room-more : (k r : ℕ) → room_load I Q k r ≡ room_load I P k r + (if at.room.0 == r then given I p at k else 0)
  unfolding entry_of
  room-more k r =
      let patient = a.patient in
      let person : p < person_count I = omega arith in
      let change = sum_below-but (person_count I) p (person_load I Q k r) (person_load I P k r) person (λ x xh ne. rw (same x ne) refl) in
      let before : person_load I P k r p ≡ 0 = rw (admission-patient I P p a.patient, a.before) refl in
      let after : person_load I Q k r p ≡ (if at.room.0 == r then given I p at k else 0) =
      rw (admission-patient I Q p a.patient, a.after)
      (if-both (at.room.0 == r) (covers at.day.0 (person_of I p).length_of_stay (day_of k)) (slice_index (person_of I p).workload (k - 3 * at.day.0))) in
      omega (arith, change, before, after, room_load-sum I Q k r, room_load-sum I P k r)

  room-same : (k r : ℕ) → (r ≡ at.room.0 → ⊥) → room_load I Q k r ≡ room_load I P k r
  room-same k r ne =
      let none : (if at.room.0 == r then given I p at k else 0) ≡ 0 = rw (ne_eqb at.room.0 r (λ e. ne (sym e))) refl in
      omega (arith, room-more k r, none)

  room-here : (k : ℕ) → room_load I Q k at.room.0 ≡ room_load I P k at.room.0 + given I p at k
  room-here k =
      let all : (if at.room.0 == at.room.0 then given I p at k else 0) ≡ given I p at k = rw (eq-eqb at.room.0 at.room.0 refl) refl in
      omega (arith, room-more k at.room.0, all)

  pub load-more : (n k : ℕ) → load_of I Q n k ≡ load_of I P n k + stay_load I P p at n k
  unfolding load_of
  load-more n k =
      let change = sum_below-but (room_count I) at.room.0 (nurse_load I Q n k) (nurse_load I P n k) a.placed.room
      (λ r rh ne. rw (a.cares r k) (ap (λ x. if is_number (care_of P r k) n then x else 0) (room-same k r ne))) in
      let here : nurse_load I Q n k at.room.0 ≡ nurse_load I P n k at.room.0 + stay_load I P p at n k =
      rw (a.cares at.room.0 k) (ap (λ x. if is_number (care_of P at.room.0 k) n then x else 0) (room-here k)
      ∙ if-sum (is_number (care_of P at.room.0 k) n) (room_load I P k at.room.0) (given I p at k)) in
      omega (arith, change, here)

-- ---- a bound on loads

-- nobody adds to the loads of two rooms, so a nurse's load is no more than all persons make
pub load-most : (I : Draft) (P : Timetable) (n k : ℕ) → IsValid I → load_of I P n k ≤ 256000000
unfolding load_of
load-most I P n k valid =
    let nursed = sum_below-le_each (room_count I) (nurse_load I P n k) (λ r. room_load I P k r) (λ r h. if-most (is_number (care_of P r k) n) (room_load I P k r)) in
    let people = sum_below-same (room_count I) (λ r. room_load I P k r) (λ r. sum_below (person_count I) (person_load I P k r)) (λ r h. room_load-sum I P k r) in
    let turned = sum_below-swap (room_count I) (person_count I) (person_load I P k) in
    let each = sum_below-le (person_count I) 100000 (λ x. sum_below (room_count I) (λ r. person_load I P k r x))
    (λ x h. omega (arith, one_room (room_count I) (admission_of I P x) (person_of I x).length_of_stay (day_of k) (workload_of I P k x), workload-most I x (entry_of I P x k) valid)) in
    omega (arith, nursed, people, turned, each, few-persons I valid)
