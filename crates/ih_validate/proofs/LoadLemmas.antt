-- The workload of each nurse, person by person in place of room by room.
use Rattle.std.proofs.Common.{◌≡◌, ℕ, ◌+◌, ◌-◌, ◌*◌, ◌<◌, ◌≤◌, refl, arith, sym, subst, ◌∙◌, Bool, true, false, List, length, replicate, Option, Some, None}
use Rattle.std.specs.Prelude.{if◌then◌else◌, ◌==◌, ◌&&◌, nat_lt, slice_get, slice_index, option_map}
use Rattle.std.proofs.lemmas.Bool.{eq-eqb, ne_eqb}
use Rattle.std.proofs.Math.ListN.{length-replicate}
use Rattle.ih_tables.specs.declared.drafts.Draft.{Draft}
use Rattle.ih_tables.specs.declared.drafts.Occupant.{Occupant}
use Rattle.ih_tables.specs.Sizes.{patient_count, person_count, room_count}
use Rattle.ih_tables.specs.Valid.{IsValid, IsOccupant}
use Rattle.ih_plan.specs.declared.moves.Placement.{Placement}
use Rattle.ih_plan.specs.Timetable.{Timetable, IsPlanOf, stay_of, care_of}
use Rattle.ih_plan.specs.Persons.{person_of}
use Rattle.ih_plan.specs.Presence.{Admission, admission_of, placed_at, stays_at, is_in, covers, day_of, workload_of}
use Rattle.ih_plan.specs.Costs.{load_of, is_number}
use Rattle.ih_plan.specs.Sums.{sum_below}
use Rattle.ih_plan.proofs.SumLemmas.{sum_below-zero, sum_below-more, sum_below-same, sum_below-but}
use Rattle.ih_plan.proofs.SumBounds.{sum_below-none, sum_below-swap}
use Rattle.ih_plan.proofs.Loads.{person_load, nurse_load, room_load-sum}
use Rattle.ih_plan.proofs.Overtime.{from-all}
use Rattle.ih_plan.proofs.TestLemmas.{if-none, if-most}
use Rattle.ih_plan.proofs.ReadLemmas.{index-copies}
use Rattle.ih_validate.specs.Members.{carer_in, carer_of}

-- ---- sums with one term

-- a sum whose terms but one are 0
sum-at : (m k : ℕ) (f : ℕ → ℕ) → k < m → ((i : ℕ) → i < m → (i ≡ k → ⊥) → f i ≡ 0) → sum_below m f ≡ f k
sum-at m k f h e =
    let but = sum_below-but m k f (λ i. 0) h e in
    omega (arith, but, sum_below-none m)

if-sum : (b : Bool) (n : ℕ) (f : ℕ → ℕ) → (if b then sum_below n f else 0) ≡ sum_below n (λ x. if b then f x else 0)
if-sum true n f = refl
if-sum false n f = sym (sum_below-none n)

-- ---- where a person is

occupant_room : (I : Draft) (o : Option Occupant) (j : ℕ) (a : Admission) → IsValid I → slice_get I.occupants j ≡ o → option_map stays_at o ≡ Some a → a.room < room_count I
occupant_room I None j a valid at e = absurd (let no : None ≡ Some a = e in cc)
occupant_room I (Some o) j a valid at e =
    let inside = (from-all (IsOccupant I) I.occupants j o valid.each_occupant at).room in
    let known : Some (stays_at o) ≡ Some a = e in
    let same : stays_at o ≡ a = cc in
    subst (λ (b : Admission). b.room < room_count I) same inside

patient_room : (I : Draft) (P : Timetable) (o : Option Placement) (x : ℕ) (a : Admission) → IsPlanOf I P → stay_of P x ≡ o → option_map placed_at o ≡ Some a → a.room < room_count I
patient_room I P None x a plan at e = absurd (let no : None ≡ Some a = e in cc)
patient_room I P (Some s) x a plan at e =
    let inside = (plan.placed x s at).room in
    let known : Some (placed_at s) ≡ Some a = e in
    let same : placed_at s ≡ a = cc in
    subst (λ (b : Admission). b.room < room_count I) same inside

-- everyone's room is one of the instance's
pub admission-room : (I : Draft) (P : Timetable) (x : ℕ) (a : Admission) → IsValid I → IsPlanOf I P → admission_of I P x ≡ Some a → a.room < room_count I
unfolding admission_of
admission-room I P x a valid plan e = by_case (nat_lt x (patient_count I)) e
  where
    by_case : (b : Bool) → (if b then option_map placed_at (stay_of P x) else option_map stays_at (slice_get I.occupants (x - patient_count I))) ≡ Some a → a.room < room_count I
    by_case true e = patient_room I P (stay_of P x) x a plan refl e
    by_case false e = occupant_room I (slice_get I.occupants (x - patient_count I)) (x - patient_count I) a valid refl e

-- ---- a nurse's load

-- what person x adds to nurse n's load in shift k
abbrev pub nurse_part : Draft → Timetable → ℕ → ℕ → ℕ → ℕ
nurse_part I P n k x = if is_number (carer_of I P k x) n then workload_of I P k x else 0

-- a person adds to the load of one room
one_room : (I : Draft) (P : Timetable) (n k w len : ℕ) (o : Option Admission) → ((a : Admission) → o ≡ Some a → a.room < room_count I)
    → sum_below (room_count I) (λ r. if is_number (care_of P r k) n then (if is_in o len r (day_of k) then w else 0) else 0)
    ≡ (if is_number (carer_in P o len k) n then w else 0)
one_room I P n k w len None h =
    sum_below-same (room_count I) (λ r. if is_number (care_of P r k) n then 0 else 0) (λ r. 0) (λ r l. if-none (is_number (care_of P r k) n)) ∙ sum_below-none (room_count I)
one_room I P n k w len (Some a) h =
    sum-at (room_count I) a.room (λ r. if is_number (care_of P r k) n then (if (a.room == r) && covers a.day len (day_of k) then w else 0) else 0) (h a refl)
    (λ i l ne. rw (ne_eqb a.room i (λ e. ne (sym e))) (if-none (is_number (care_of P i k) n)))
    ∙ rw (eq-eqb a.room a.room refl) (by_case (covers a.day len (day_of k)))
  where
    by_case : (b : Bool) → (if is_number (care_of P a.room k) n then (if b then w else 0) else 0) ≡ (if is_number (if b then care_of P a.room k else None) n then w else 0)
    by_case true = refl
    by_case false = if-none (is_number (care_of P a.room k) n)

abbrev room_part : Draft → Timetable → ℕ → ℕ → ℕ → ℕ → ℕ
room_part I P n k r x = if is_number (care_of P r k) n then person_load I P k r x else 0

by_person : (I : Draft) (P : Timetable) (n k r : ℕ) → nurse_load I P n k r ≡ sum_below (person_count I) (room_part I P n k r)
by_person I P n k r = rw (room_load-sum I P k r) (if-sum (is_number (care_of P r k) n) (person_count I) (person_load I P k r))

-- a nurse's load is what all persons add to it
pub load-by_person : (I : Draft) (P : Timetable) (n k : ℕ) → IsValid I → IsPlanOf I P → sum_below (person_count I) (nurse_part I P n k) ≡ load_of I P n k
unfolding load_of
load-by_person I P n k valid plan = sym (
    sum_below-same (room_count I) (nurse_load I P n k) (λ r. sum_below (person_count I) (room_part I P n k r)) (λ r l. by_person I P n k r)
    ∙ sum_below-swap (room_count I) (person_count I) (room_part I P n k)
    ∙ sum_below-same (person_count I) (λ x. sum_below (room_count I) (λ r. room_part I P n k r x)) (nurse_part I P n k)
    (λ x l. one_room I P n k (workload_of I P k x) (person_of I x).length_of_stay (admission_of I P x) (λ a e. admission-room I P x a valid plan e)))

-- ---- the table of loads

-- the table has what the first x persons add
pub record AreLoads (I : Draft) (P : Timetable) (k x : ℕ) (loads : List ℕ) : Type 0 where
  pub len : length loads ≡ 512
  pub each : (n : ℕ) → slice_index loads n ≡ sum_below x (nurse_part I P n k)
  pub small : (n : ℕ) → slice_index loads n ≤ 100000 * x

pub are_loads-none : (I : Draft) (P : Timetable) (k : ℕ) → AreLoads I P k 0 (replicate 512 0)
are_loads-none I P k = record {
  len = length-replicate {A = ℕ} 512 0;
  each = λ n. index-copies {X = ℕ} 512 n 0 ∙ sym (sum_below-zero (nurse_part I P n k));
  small = λ n. omega (arith, index-copies {X = ℕ} 512 n 0);
}

pub are_loads-more : {I : Draft} {P : Timetable} {k x : ℕ} {loads : List ℕ} (new : List ℕ) (carer : Option ℕ) (load : ℕ) → AreLoads I P k x loads
    → carer ≡ carer_of I P k x → load ≡ workload_of I P k x → load ≤ 100000 → length new ≡ length loads
    → ((n : ℕ) → slice_index new n ≡ slice_index loads n + (if is_number carer n then load else 0)) → AreLoads I P k (x + 1) new
are_loads-more {I} {P} {k} {x} {loads} new carer load so_far who much most long added = record {
  len = long ∙ so_far.len;
  each = λ n. added n ∙ rw (so_far.each n, sum_below-more x (nurse_part I P n k), who, much) refl;
  small = λ n. omega (arith, added n, so_far.small n, if-most (is_number carer n) load);
}
