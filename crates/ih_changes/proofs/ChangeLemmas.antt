-- Changes: none from a timetable to itself, and never many; and whether anybody is listed.
use Rattle.std.proofs.Common.{◌≡◌, ◌∙◌, ℕ, zero, suc, ◌+◌, ◌*◌, ◌<◌, ◌≤◌, refl, sym, ap, arith, inl, inr, Bool, true, false, List, [], ◌∷◌, ◌++◌, Option, Some, None}
use Rattle.std.specs.Prelude.{◌==◌, ◌&&◌, not, if◌then◌else◌}
use Rattle.std.proofs.lemmas.Bool.{cases_lt, eq-eqb}
use Rattle.ih_tables.specs.declared.drafts.Draft.{Draft}
use Rattle.ih_tables.specs.Sizes.{patient_count, room_count, shift_count}
use Rattle.ih_tables.specs.Valid.{IsValid}
use Rattle.ih_plan.specs.declared.moves.Placement.{Placement}
use Rattle.ih_plan.specs.Costs.{is_empty}
use Rattle.ih_plan.specs.Presence.{day_of}
use Rattle.ih_plan.specs.Sums.{bit, count_below, sum_below, which_below}
use Rattle.ih_plan.specs.Timetable.{Timetable, care_of, stay_of}
use Rattle.ih_plan.proofs.SumLemmas.{sum_below-le, which_below-more}
use Rattle.ih_plan.proofs.TestLemmas.{bit-most}
use Rattle.ih_changes.specs.Changes.{changed_cares, changed_stays, changes, has_new_nurse, is_changed, is_occupied, is_same_nurse, is_same_stay}

-- ---- who is listed

-- nobody yet, and not the next one
pub none-yet : (n : ℕ) (p : ℕ → Bool) → which_below n p ≡ [] → p n ≡ false → which_below (n + 1) p ≡ []
none-yet n p none off = which_below-more n p ∙ (ap (λ (b : Bool). if b then which_below n p ++ n ∷ [] else which_below n p) off ∙ none)

some-last : (xs : List ℕ) (n : ℕ) → is_empty (xs ++ n ∷ []) ≡ false
some-last [] n = refl
some-last (x ∷ xs) n = refl

pub some-listed : (n x : ℕ) (p : ℕ → Bool) → x < n → p x ≡ true → is_empty (which_below n p) ≡ false
unfolding which_below
some-listed zero x p h on = absurd (omega (arith, h))
some-listed (suc n) x p h on = by_case (λ (below : x < n). some-listed n x p below on) (p n) refl
  where
    by_case : (x < n → is_empty (which_below n p) ≡ false) → (t : Bool) → p n ≡ t
        → is_empty (if t then which_below n p ++ n ∷ [] else which_below n p) ≡ false
    by_case before true is = some-last (which_below n p) n
    by_case before false off = elim (cases_lt x n) [
      | inl below ↦ before below
      | inr above ↦
          let same : x ≡ n = omega (arith, h, above) in
          absurd (let no : true ≡ false = sym on ∙ (ap p same ∙ off) in cc)
    ]

-- ---- a timetable and itself

same-number : (n : ℕ) → (n == n) ≡ true
same-number n = eq-eqb n n refl

stay-same : (s : Option Placement) → is_same_stay s s ≡ true
stay-same None = refl
stay-same (Some a) = rw (same-number a.day.0, same-number a.room.0, same-number a.theatre.0) refl

nurse-same : (n : Option ℕ) → is_same_nurse n n ≡ true
nurse-same None = refl
nurse-same (Some n) = same-number n

-- a sum of nothing
sum-none : (n : ℕ) (f : ℕ → ℕ) → ((i : ℕ) → i < n → f i ≡ 0) → sum_below n f ≡ 0
sum-none n f none =
    let most = sum_below-le n 0 f (λ i h. let is = none i h in omega (arith, is)) in
    omega (arith, most)

pub no-changes : (I : Draft) (P : Timetable) → changes I P P ≡ 0
unfolding changed_stays changed_cares
no-changes I P =
    let stays : count_below (patient_count I) (is_changed P P) ≡ 0 =
    sum-none (patient_count I) (λ p. bit (is_changed P P p)) (λ p h. ap (λ (b : Bool). bit (not b)) (stay-same (stay_of P p))) in
    let cares : sum_below (room_count I) (λ r. count_below (shift_count I) (has_new_nurse I P P r)) ≡ 0 =
    sum-none (room_count I) (λ r. count_below (shift_count I) (has_new_nurse I P P r))
    (λ r h. sum-none (shift_count I) (λ k. bit (has_new_nurse I P P r k))
    (λ k l. ap (λ (b : Bool). bit (not b && is_occupied I P r (day_of k))) (nurse-same (care_of P r k)))) in
    omega (arith, stays, cares)

-- ---- how many there are at most

pub changes-few : (I : Draft) (O P : Timetable) → IsValid I → changes I O P ≤ 23552
unfolding changed_stays changed_cares
changes-few I O P valid =
    let patients = valid.patients.len.most in
    let rooms = valid.rooms.len.most in
    let days = valid.days.most in
    let stays : changed_stays I O P ≤ patient_count I * 1 = sum_below-le (patient_count I) 1 (λ p. bit (is_changed O P p)) (λ p h. bit-most (is_changed O P p)) in
    let each : (r : ℕ) → r < room_count I → count_below (shift_count I) (has_new_nurse I O P r) ≤ 168 = λ r h.
    let in_room = sum_below-le (shift_count I) 1 (λ k. bit (has_new_nurse I O P r k)) (λ k l. bit-most (has_new_nurse I O P r k)) in
    omega (arith, in_room, days) in
    let cares : changed_cares I O P ≤ room_count I * 168 = sum_below-le (room_count I) 168 (λ r. count_below (shift_count I) (has_new_nurse I O P r)) each in
    omega (arith, stays, cares, patients, rooms)
