-- The numbers of a bill that counting alone doesn't bound: minutes above the surgeons' and theatres' limits, and
-- overloads.
use Rattle.std.proofs.Common.{◌≡◌, ℕ, ◌-◌, ◌*◌, ◌≤◌, refl, arith, sym, ◌∙◌, Bool, true, false, List, length, inl, inr, Option, Some, None}
use Rattle.std.specs.Prelude.{if◌then◌else◌, ◌==◌, ◌&&◌, slice_get, slice_index, All}
use Rattle.std.specs.Option.{option_map_or}
use Rattle.std.proofs.Common.{subst, get_or}
use Rattle.std.specs.Prelude.{nat_lt}
use Rattle.std.proofs.lemmas.Option.{slice_get_within, slice_get-get_or}
use Rattle.std.proofs.lemmas.List.{get_or_past}
use Rattle.std.proofs.lemmas.Nat.{mul-le}
use Rattle.ih_tables.specs.declared.drafts.Patient.{Patient}
use Rattle.ih_plan.specs.declared.moves.Placement.{Placement}
use Rattle.ih_tables.specs.declared.drafts.Occupant.{Occupant}
use Rattle.ih_tables.specs.Valid.{IsPatient, IsOccupant}
use Rattle.ih_plan.specs.Persons.{Person, patient_person, occupant_person, nobody}
use Rattle.ih_plan.specs.Presence.{entry_of}
use Rattle.std.proofs.lemmas.Bool.{cases_lt}
use Rattle.ih_tables.specs.declared.drafts.Draft.{Draft}
use Rattle.ih_tables.specs.Sizes.{patient_count, person_count, room_count, surgeon_count, theatre_count, nurse_count, shift_count}
use Rattle.ih_tables.specs.Works.{max_load}
use Rattle.ih_tables.specs.Valid.{IsValid}
use Rattle.ih_plan.specs.Timetable.{Timetable, stay_of, care_of}
use Rattle.ih_plan.specs.Sums.{sum_below}
use Rattle.ih_plan.specs.Persons.{person_of}
use Rattle.ih_plan.specs.Presence.{Admission, admission_of, is_in, day_of, workload_of, covers}
use Rattle.ih_plan.specs.Costs.{is_number, admitted_on, surgeon_of, duration_of, minutes, surgeon_maximum, theatre_availability, operated_in, operated, operated_by, load_of, overload}
use Rattle.ih_plan.specs.BillOf.{surgeon_overtime, theatre_overtime, overloads}
use Rattle.ih_plan.proofs.SumLemmas.{sum_below-same, sum_below-le, sum_by-which_below}
use Rattle.ih_plan.proofs.SumBounds.{sum_below-le_each, sum_below-swap, sum_below-none, one_place}
use Rattle.ih_plan.proofs.Loads.{room_load, person_load, nurse_load, room_load-sum}
use Rattle.ih_plan.proofs.TestLemmas.{if-most}

-- ---- a number at one place

one_number : (m : ℕ) (o : Option ℕ) (x : ℕ) → sum_below m (λ i. if is_number o i then x else 0) ≤ x
one_number m None x = omega (arith, sum_below-none m)
one_number m (Some k) x = one_place m k x

-- a test that holds at one place of each of two
pub if-both : (a b : Bool) (x : ℕ) → (if a && b then x else 0) ≡ (if a then (if b then x else 0) else 0)
if-both true b x = refl
if-both false b x = refl

one_day : (m : ℕ) (o : Option Placement) (x : ℕ) → sum_below m (λ d. if admitted_on d o then x else 0) ≤ x
one_day m None x = omega (arith, sum_below-none m)
one_day m (Some at) x = one_place m at.day.0 x

pub one_room : (m : ℕ) (o : Option Admission) (n d x : ℕ) → sum_below m (λ r. if is_in o n r d then x else 0) ≤ x
one_room m None n d x = omega (arith, sum_below-none m)
one_room m (Some a) n d x =
    let each = sum_below-le_each m (λ r. if is_in (Some a) n r d then x else 0) (λ r. if a.room == r then x else 0)
    (λ r h. rw (if-both (a.room == r) (covers a.day n d) x) (inner (a.room == r))) in
    omega (arith, each, one_place m a.room x)
  where
    inner : (b : Bool) → (if b then (if covers a.day n d then x else 0) else 0) ≤ (if b then x else 0)
    inner true = if-most (covers a.day n d) x
    inner false = omega arith

-- ---- entries of an instance

pub from-all : {X : Type 0} (B : X → Type 0) (xs : List X) (i : ℕ) (x : X) → All B xs → slice_get xs i ≡ Some x → B x
from-all B xs i x all e =
    let within = slice_get_within xs i x e in
    let same : Some x ≡ Some (get_or xs i x) = sym e ∙ slice_get-get_or xs i x within in
    let entry : get_or xs i x ≡ x = cc in
    subst B entry (all i x within)

pub entry-most : (xs : List ℕ) (high j : ℕ) → All (λ x. x ≤ high) xs → slice_index xs j ≤ high
entry-most xs high j all = elim (cases_lt j (length xs)) [
  | inl inside ↦ all j 0 inside
  | inr past ↦ rw (get_or_past xs j 0 past) (omega arith)
]

pub duration-most : (I : Draft) (p : ℕ) → IsValid I → duration_of I p ≤ 100000
duration-most I p valid = by_case (slice_get I.patients p) refl
  where
    by_case : (o : Option Patient) → slice_get I.patients p ≡ o → option_map_or (λ (a : Patient). a.surgery_duration) o 0 ≤ 100000
    by_case None e = omega arith
    by_case (Some a) e = (from-all (IsPatient I) I.patients p a valid.each_patient e).duration

-- what holds of nobody, of each patient and of each occupant holds of each person
pub of-person : (I : Draft) (B : Person → Type 0) (x : ℕ) → IsValid I → B nobody → ((a : Patient) → IsPatient I a → B (patient_person a))
    → ((o : Occupant) → IsOccupant I o → B (occupant_person o)) → B (person_of I x)
unfolding person_of
of-person I B x valid no_one each_patient each_occupant = by_test (nat_lt x (patient_count I))
  where
    patient : (o : Option Patient) → slice_get I.patients x ≡ o → B (option_map_or patient_person o nobody)
    patient None e = no_one
    patient (Some a) e = each_patient a (from-all (IsPatient I) I.patients x a valid.each_patient e)

    occupant : (o : Option Occupant) → slice_get I.occupants (x - patient_count I) ≡ o → B (option_map_or occupant_person o nobody)
    occupant None e = no_one
    occupant (Some a) e = each_occupant a (from-all (IsOccupant I) I.occupants (x - patient_count I) a valid.each_occupant e)

    by_test : (b : Bool) → B
        (if b then option_map_or patient_person (slice_get I.patients x) nobody else option_map_or occupant_person
        (slice_get I.occupants (x - patient_count I)) nobody)
    by_test true = patient (slice_get I.patients x) refl
    by_test false = occupant (slice_get I.occupants (x - patient_count I)) refl

pub workload-most : (I : Draft) (x j : ℕ) → IsValid I → slice_index (person_of I x).workload j ≤ 100000
workload-most I x j valid =
    of-person I (λ p. slice_index p.workload j ≤ 100000) x valid (omega arith) (λ a h. entry-most a.workload_produced 100000 j h.workload.small)
    (λ o h. entry-most o.workload_produced 100000 j h.workload.small)

-- ---- sums in another order

last_first : (m n l : ℕ) (f : ℕ → ℕ → ℕ → ℕ) → sum_below m (λ i. sum_below n (λ j. sum_below l (λ p. f i j p))) ≡ sum_below l (λ p. sum_below m (λ i. sum_below n (λ j. f i j p)))
last_first m n l f =
    sum_below-same m (λ i. sum_below n (λ j. sum_below l (λ p. f i j p))) (λ i. sum_below l (λ p. sum_below n (λ j. f i j p))) (λ i h. sum_below-swap n l (f i))
    ∙ sum_below-swap m l (λ i p. sum_below n (λ j. f i j p))

le_each_two : (m n : ℕ) (f g : ℕ → ℕ → ℕ) → ((i j : ℕ) → f i j ≤ g i j) → sum_below m (λ i. sum_below n (λ j. f i j)) ≤ sum_below m (λ i. sum_below n (λ j. g i j))
le_each_two m n f g h = sum_below-le_each m (λ i. sum_below n (λ j. f i j)) (λ i. sum_below n (λ j. g i j)) (λ i ih. sum_below-le_each n (f i) (g i) (λ j jh. h i j))

-- ---- minutes above the surgeons' maxima

abbrev minutes_at : Draft → Timetable → ℕ → ℕ → ℕ → ℕ
minutes_at I P s d p = if is_number (surgeon_of I p) s && admitted_on d (stay_of P p) then duration_of I p else 0

one_surgery : (I : Draft) (P : Timetable) (p : ℕ) → sum_below (surgeon_count I) (λ s. sum_below I.days (λ d. minutes_at I P s d p)) ≤ duration_of I p
one_surgery I P p =
    let x : ℕ = duration_of I p in
    let each = sum_below-le_each (surgeon_count I) (λ s. sum_below I.days (λ d. minutes_at I P s d p)) (λ s. if is_number (surgeon_of I p) s then x else 0)
    (λ s h. inner (is_number (surgeon_of I p) s)) in
    omega (arith, each, one_number (surgeon_count I) (surgeon_of I p) x)
  where
    inner : (b : Bool) → sum_below I.days (λ d. if b && admitted_on d (stay_of P p) then duration_of I p else 0) ≤ (if b then duration_of I p else 0)
    inner true = one_day I.days (stay_of P p) (duration_of I p)
    inner false = omega (arith, sum_below-none I.days)

pub surgeon_overtime-most : (I : Draft) (P : Timetable) → IsValid I → surgeon_overtime I P ≤ patient_count I * 100000
unfolding surgeon_overtime operated_by
surgeon_overtime-most I P valid =
    let above = le_each_two (surgeon_count I) I.days (λ s d. minutes I (operated_by I P s d) - surgeon_maximum I s d) (λ s d. sum_below (patient_count I) (minutes_at I P s d))
    (λ s d. let all = sum_by-which_below (duration_of I) (patient_count I) (λ p. is_number (surgeon_of I p) s && admitted_on d (stay_of P p)) in omega arith) in
    let turned = last_first (surgeon_count I) I.days (patient_count I) (minutes_at I P) in
    let each = sum_below-le (patient_count I) 100000 (λ p. sum_below (surgeon_count I) (λ s. sum_below I.days (λ d. minutes_at I P s d p)))
    (λ p h. omega (arith, one_surgery I P p, duration-most I p valid)) in
    omega (arith, above, turned, each)

-- ---- minutes above the theatres' availability

abbrev minutes_in : Draft → Timetable → ℕ → ℕ → ℕ → ℕ
minutes_in I P t d p = if operated_in t d (stay_of P p) then duration_of I p else 0

one_theatre : (m n : ℕ) (o : Option Placement) (x : ℕ) → sum_below m (λ t. sum_below n (λ d. if operated_in t d o then x else 0)) ≤ x
one_theatre m n None x =
    let each = sum_below-le m 0 (λ t. sum_below n (λ d. 0)) (λ t h. omega (arith, sum_below-none n)) in
    omega (arith, each)
one_theatre m n (Some at) x =
    let each = sum_below-le_each m (λ t. sum_below n (λ d. if (at.theatre.0 == t) && (at.day.0 == d) then x else 0)) (λ t. if at.theatre.0 == t then x else 0)
    (λ t h. inner (at.theatre.0 == t)) in
    omega (arith, each, one_place m at.theatre.0 x)
  where
    inner : (b : Bool) → sum_below n (λ d. if b && (at.day.0 == d) then x else 0) ≤ (if b then x else 0)
    inner true = one_place n at.day.0 x
    inner false = omega (arith, sum_below-none n)

pub theatre_overtime-most : (I : Draft) (P : Timetable) → IsValid I → theatre_overtime I P ≤ patient_count I * 100000
unfolding theatre_overtime operated
theatre_overtime-most I P valid =
    let above = le_each_two (theatre_count I) I.days (λ t d. minutes I (operated I P t d) - theatre_availability I t d) (λ t d. sum_below (patient_count I) (minutes_in I P t d))
    (λ t d. let all = sum_by-which_below (duration_of I) (patient_count I) (λ p. operated_in t d (stay_of P p)) in omega arith) in
    let turned = last_first (theatre_count I) I.days (patient_count I) (minutes_in I P) in
    let each = sum_below-le (patient_count I) 100000 (λ p. sum_below (theatre_count I) (λ t. sum_below I.days (λ d. minutes_in I P t d p)))
    (λ p h. omega (arith, one_theatre (theatre_count I) I.days (stay_of P p) (duration_of I p), duration-most I p valid)) in
    omega (arith, above, turned, each)

-- ---- overloads

shift_load : (I : Draft) (P : Timetable) (k : ℕ) → IsValid I → sum_below (room_count I) (λ r. room_load I P k r) ≤ person_count I * 100000
shift_load I P k valid =
    let people = sum_below-same (room_count I) (λ r. room_load I P k r) (λ r. sum_below (person_count I) (person_load I P k r)) (λ r h. room_load-sum I P k r) in
    let turned = sum_below-swap (room_count I) (person_count I) (person_load I P k) in
    let each = sum_below-le (person_count I) 100000 (λ x. sum_below (room_count I) (λ r. person_load I P k r x))
    (λ x h. omega (arith, one_room (room_count I) (admission_of I P x) (person_of I x).length_of_stay (day_of k) (workload_of I P k x), workload-most I x (entry_of I P x k) valid)) in
    omega (arith, people, turned, each)

pub overloads-most : (I : Draft) (P : Timetable) → IsValid I → overloads I P ≤ shift_count I * (person_count I * 100000)
unfolding overloads load_of
overloads-most I P valid =
    let above = le_each_two (nurse_count I) (shift_count I) (λ n k. overload (max_load I n k) (load_of I P n k)) (λ n k. sum_below (room_count I) (nurse_load I P n k))
    (λ n k. overload-most (max_load I n k) (load_of I P n k)) in
    let turned = sum_below-swap (nurse_count I) (shift_count I) (λ n k. sum_below (room_count I) (nurse_load I P n k)) in
    let each = sum_below-le (shift_count I) (person_count I * 100000) (λ k. sum_below (nurse_count I) (λ n. sum_below (room_count I) (nurse_load I P n k)))
    (λ k h.
    let rooms = sum_below-swap (nurse_count I) (room_count I) (λ n r. nurse_load I P n k r) in
    let one = sum_below-le_each (room_count I) (λ r. sum_below (nurse_count I) (λ n. nurse_load I P n k r)) (λ r. room_load I P k r)
    (λ r rh. one_number (nurse_count I) (care_of P r k) (room_load I P k r)) in
    omega (arith, rooms, one, shift_load I P k valid)) in
    omega (arith, above, turned, each)
  where
    overload-most : (o : Option ℕ) (load : ℕ) → overload o load ≤ load
    overload-most None load = omega arith
    overload-most (Some most) load = omega arith

-- within the limits of an instance this is below 10^11
pub overloads-small : (I : Draft) (P : Timetable) → IsValid I → overloads I P ≤ 100000000000
overloads-small I P valid =
    let most = overloads-most I P valid in
    let days = valid.days.most in
    let patients = valid.patients.len.most in
    let occupants = valid.occupants.len.most in
    let shifts : shift_count I ≤ 168 = omega arith in
    let people : person_count I * 100000 ≤ 256000000 = omega arith in
    let both = mul-le (shift_count I) (person_count I * 100000) 168 256000000 shifts people in
    omega (arith, most, both)
