-- Occupants among the persons of a feasible timetable: they are in their rooms whatever it says.
use Rattle.std.proofs.Common.{◌≡◌, ℕ, zero, suc, ◌+◌, ◌-◌, ◌<◌, ◌≤◌, refl, sym, ap, ◌∙◌, arith, Bool, true, false, List, [], ◌∷◌, length, inl, inr, Option, Some, None}
use Rattle.std.specs.Prelude.{◌==◌, ◌&&◌, not, nat_lt, nat_eq, is_none, is_some, slice_get, slice_index, map, pos}
use Rattle.std.specs.List.{list_any, range_with_len}
use Rattle.std.specs.Option.{option_map_or}
use Rattle.std.specs.Str.{bytes_eq}
use Rattle.std.proofs.lemmas.Bool.{and_parts, both_ways, eqb-true, false_from_ne_true, le-leb, lt-ltb, le-ltb, ltb-true, not-false, not-true, or_cases, or_parts}
use Rattle.std.proofs.lemmas.Option.{slice_get_within}
use Rattle.std.proofs.lemmas.Slice.Eq.{bytes_eq-Decides}
use Rattle.ih_tables.specs.declared.drafts.Draft.{Draft}
use Rattle.ih_tables.specs.declared.drafts.Occupant.{Occupant}
use Rattle.ih_tables.specs.declared.drafts.Patient.{Patient}
use Rattle.ih_tables.specs.Bills.{all_zero}
use Rattle.ih_tables.specs.Sizes.{nurse_count, occupant_count, patient_count, person_count, room_count, shift_count}
use Rattle.ih_tables.specs.Works.{first_nurses, is_working, max_load, working}
use Rattle.ih_plan.specs.BillOf.{bad_rooms, bill_of, broken_rules, gender_mixes}
use Rattle.ih_plan.specs.Costs.{capacity_of, genders_differ, in_bad_room, is_empty, of_patient}
use Rattle.ih_plan.specs.Persons.{person_of}
use Rattle.ih_plan.specs.Presence.{covers, day_of, is_present, present}
use Rattle.ih_plan.specs.Sums.{bit, count_below}
use Rattle.ih_plan.specs.Timetable.{Timetable, care_of, stay_of}
use Rattle.ih_plan.proofs.ListedBelow.{has, has-which_below}
use Rattle.ih_plan.proofs.Ranges.{sum_below-append}
use Rattle.ih_plan.proofs.SumLemmas.{length-which_below, sum_below-same}
use Rattle.ih_plan.proofs.Whereabouts.{occupant-there}
use Rattle.ih_bound.specs.Bounds.{IsFeasible}
use Rattle.ih_bound.proofs.RulesKept.{has-nurse, of-patient, on-duty, room-fits}
use Rattle.ih_bound.proofs.SumLaws.{rows-no_term, sum_below-no_term, sum_below-term}
use Rattle.ih_why.specs.Beds.{has_other, is_crowded, is_deserted, is_mixed, is_occupied, lies_in, occupants_in}
use Rattle.ih_why.proofs.ListTests.{any-map, any-range, any-where, kept-some, length-filter_places, there-is}

-- ---- where occupants are

covers-zero : (n d : ℕ) → covers 0 n d ≡ nat_lt d n
covers-zero n d = let end : 0 + n ≡ n = omega arith in rw (le-leb 0 d (omega arith), end) refl

module _ (I : Draft) (P : Timetable) (r d : ℕ) where
  occupant-lies : (k : ℕ) (o : Occupant) → slice_get I.occupants k ≡ Some o → is_present I P r d (patient_count I + k) ≡ lies_in r d o
  occupant-lies k o e = occupant-there I P r d k o e ∙ ap (λ b. (o.room_id.0 == r) && b) (covers-zero o.length_of_stay d)

  -- an occupant who is in the room is among the persons present
  pub occupant-has : (k : ℕ) (o : Occupant) → slice_get I.occupants k ≡ Some o → lies_in r d o ≡ true → has (patient_count I + k) (present I P r d) ≡ true
  unfolding present
  occupant-has k o e h =
      let below = slice_get_within I.occupants k o e in
      has-which_below (person_count I) (patient_count I + k) (is_present I P r d) (omega arith) ∙ (occupant-lies k o e ∙ h)

  place-lies : (k : ℕ) → k < occupant_count I → bit (is_present I P r d (patient_count I + k)) ≡ bit (option_map_or (lies_in r d) (slice_get I.occupants k) false)
  place-lies k below =
      let there = there-is I.occupants k below in
      ap bit (occupant-lies k there.0 there.1) ∙ sym (ap (λ o. bit (option_map_or (lies_in r d) o false)) there.1)

  -- the persons present are the patients there and the occupants
  pub present-count : length (present I P r d) ≡ count_below (patient_count I) (is_present I P r d) + occupants_in I r d
  unfolding present
  present-count =
      let f = λ (x : ℕ). bit (is_present I P r d x) in
      let all = length-which_below (person_count I) (is_present I P r d) in
      let parts = sum_below-append (patient_count I) (occupant_count I) f in
      let same = sum_below-same (occupant_count I) (λ k. f (patient_count I + k)) (λ k. bit (option_map_or (lies_in r d) (slice_get I.occupants k) false)) place-lies in
      let few = length-filter_places (lies_in r d) I.occupants in
      omega (arith, all, parts, same, few)

  -- with a patient who is there
  pub one-beside : (p : ℕ) → p < patient_count I → is_present I P r d p ≡ true → occupants_in I r d + 1 ≤ length (present I P r d)
  one-beside p known there =
      let one = sum_below-term (patient_count I) p (λ x. bit (is_present I P r d x)) known in
      let here : bit (is_present I P r d p) ≡ 1 = ap bit there in
      omega (arith, one, here, present-count)

-- ---- genders

pub occupant-gender : (I : Draft) (k : ℕ) (o : Occupant) → slice_get I.occupants k ≡ Some o → (person_of I (patient_count I + k)).gender ≡ o.gender
unfolding person_of
occupant-gender I k o e =
    let place : patient_count I + k - patient_count I ≡ k = omega arith in
    rw (le-ltb (patient_count I + k) (patient_count I) (omega arith), place, e) refl

pub patient-gender : (I : Draft) (p : ℕ) (a : Patient) → p < patient_count I → slice_get I.patients p ≡ Some a → (person_of I p).gender ≡ a.gender
unfolding person_of
patient-gender I p a known e = rw (lt-ltb p (patient_count I) known, e) refl

same-gender : (g h : List ℕ) → not (bytes_eq g h) ≡ false → g ≡ h
same-gender g h e = (bytes_eq-Decides g h).0 (not-false (bytes_eq g h) e)

other-gender : (g h : List ℕ) → g ≡ h → not (bytes_eq g h) ≡ true → ⊥
other-gender g h same other = both_ways (bytes_eq g h) (not-true (bytes_eq g h) other) ((bytes_eq-Decides g h).1 same)

none-of : (q : ℕ → Bool) (x : ℕ) (xs : List ℕ) → list_any q xs ≡ false → has x xs ≡ true → q x ≡ false
none-of q x [] none m = absurd (let no : false ≡ true = m in cc)
none-of q x (y ∷ ys) none m =
    let parts = or_parts (q y) (list_any q ys) none in
    elim (or_cases (y == x) (has x ys) m) [
      | inl here ↦ ap q (sym (eqb-true y x here)) ∙ parts.0
      | inr later ↦ none-of q x ys parts.1 later
    ]

one-gender : (I : Draft) (xs : List ℕ) (x y : ℕ) → genders_differ I xs ≡ false → has x xs ≡ true → has y xs ≡ true → (person_of I x).gender ≡ (person_of I y).gender
one-gender I [] x y one m n = absurd (let no : false ≡ true = m in cc)
one-gender I (z ∷ zs) x y one m n = sym (first x m) ∙ first y n
  where
    first : (w : ℕ) → has w (z ∷ zs) ≡ true → (person_of I z).gender ≡ (person_of I w).gender
    first w h = elim (or_cases (z == w) (has w zs) h) [
      | inl here ↦ ap (λ (v : ℕ). (person_of I v).gender) (eqb-true z w here)
      | inr later ↦ same-gender (person_of I z).gender (person_of I w).gender (none-of (λ v. not (bytes_eq (person_of I z).gender (person_of I v).gender)) w zs one later)
    ]

-- ---- who works

working-some : (o : Option ℕ) → is_none o ≡ false → is_some o ≡ true
working-some None e = absurd (let no : true ≡ false = e in cc)
working-some (Some x) e = refl

some-works : (I : Draft) (k n : ℕ) → n < nurse_count I → is_none (max_load I n k) ≡ false → is_empty (working I k) ≡ false
some-works I k n known works =
    kept-some (is_working I k) (first_nurses (nurse_count I))
    (any-map (is_working I k) (λ i. record { 0 = i }) (range_with_len 0 (nurse_count I))
    ∙ any-range (λ i. is_some (max_load I i k)) (nurse_count I) 0 n (omega arith) (omega arith) (working-some (max_load I n k) works))

-- ---- rules that a feasible timetable keeps

zero-parts : (x : ℕ) (xs : List ℕ) → all_zero (map pos (x ∷ xs)) ≡ true → (x ≡ 0) × (all_zero (map pos xs) ≡ true)
zero-parts x xs h = let parts = and_parts (nat_eq x 0) (all_zero (map pos xs)) h in (eqb-true x 0 parts.0, parts.1)

zero-each : (xs : List ℕ) (k : ℕ) → all_zero (map pos xs) ≡ true → slice_index xs k ≡ 0
zero-each [] k h = refl
zero-each (x ∷ xs) zero h = (zero-parts x xs h).0
zero-each (x ∷ xs) (suc k) h = zero-each xs k (zero-parts x xs h).1

bit-off : (b : Bool) → bit b ≡ 0 → b ≡ false
bit-off true e = absurd (omega arith)
bit-off false e = refl

module _ (I : Draft) (P : Timetable) (feasible : IsFeasible I P) where
  rule : (k : ℕ) → slice_index (broken_rules I P) k ≡ 0
  unfolding bill_of
  rule k = zero-each (broken_rules I P) k feasible.rules

  -- all persons of a room on a day have one gender
  pub gender-kept : (r d x y : ℕ) → r < room_count I → d < I.days → has x (present I P r d) ≡ true → has y (present I P r d) ≡ true → (person_of I x).gender ≡ (person_of I y).gender
  unfolding gender_mixes
  gender-kept r d x y hr hd m n =
      let none = rows-no_term (room_count I) I.days r d (λ r d. bit (genders_differ I (present I P r d))) (rule 0) hr hd in
      one-gender I (present I P r d) x y (bit-off (genders_differ I (present I P r d)) none) m n

  -- a patient's room suits
  pub room-suits : (p : ℕ) (a : Patient) → p < patient_count I → slice_get I.patients p ≡ Some a → in_bad_room a (stay_of P p) ≡ false
  unfolding bad_rooms
  room-suits p a known e =
      bit-off (in_bad_room a (stay_of P p))
      (sym (of-patient I p a (λ a. bit (in_bad_room a (stay_of P p))) e)
      ∙ sum_below-no_term (patient_count I) p (λ p. of_patient I p (λ a. bit (in_bad_room a (stay_of P p)))) (rule 1) known)

  -- nobody in a room has another gender than an occupant there
  pub none-other : (r d x : ℕ) (g : List ℕ) → r < room_count I → d < I.days → has x (present I P r d) ≡ true → (person_of I x).gender ≡ g → has_other I r d g ≡ false
  none-other r d x g hr hd m is = false_from_ne_true (has_other I r d g) (λ h.
      let found = any-where (λ o. lies_in r d o && not (bytes_eq g o.gender)) I.occupants h in
      let k = found.0 in
      let o = found.1 in
      let parts = and_parts (lies_in r d o) (not (bytes_eq g o.gender)) found.3 in
      let same = gender-kept r d x (patient_count I + k) hr hd m (occupant-has I P r d k o found.2 parts.0) in
      other-gender g o.gender (sym is ∙ (same ∙ occupant-gender I k o found.2)) parts.1)

  -- ---- what no occupants break

  pub not-crowded : (r d : ℕ) → r < room_count I → d < I.days → is_crowded I r d ≡ true → ⊥
  not-crowded r d hr hd h =
      let more = ltb-true (capacity_of I r) (occupants_in I r d) h in
      let fit = room-fits I P feasible r d hr hd in
      omega (arith, more, fit, present-count I P r d)

  pub not-mixed : (r d : ℕ) → r < room_count I → d < I.days → is_mixed I r d ≡ true → ⊥
  not-mixed r d hr hd h =
      let found = any-where (λ o. lies_in r d o && has_other I r d o.gender) I.occupants h in
      let k = found.0 in
      let o = found.1 in
      let parts = and_parts (lies_in r d o) (has_other I r d o.gender) found.3 in
      both_ways (has_other I r d o.gender)
      (none-other r d (patient_count I + k) o.gender hr hd (occupant-has I P r d k o found.2 parts.0) (occupant-gender I k o found.2))
      parts.1

  -- an occupied room has a nurse who works
  pub not-deserted : (r k : ℕ) → r < room_count I → k < shift_count I → is_deserted I r k ≡ true → ⊥
  not-deserted r k hr hk h =
      let parts = and_parts (is_empty (working I k)) (is_occupied I r (day_of k)) h in
      let found = any-where (lies_in r (day_of k)) I.occupants parts.1 in
      let there = occupant-has I P r (day_of k) found.0 found.1 found.2 found.3 in
      by_nurse (care_of P r k) refl (present I P r (day_of k)) (patient_count I + found.0) there (has-nurse I P feasible r k hr hk) parts.0
    where
      by_nurse : (n : Option ℕ) → care_of P r k ≡ n → (xs : List ℕ) (x : ℕ) → has x xs ≡ true → (is_none (care_of P r k) && not (is_empty xs)) ≡ false → is_empty (working I k) ≡ true → ⊥
      by_nurse None none [] x m kept h = absurd (let no : false ≡ true = m in cc)
      by_nurse None none (y ∷ ys) x m kept h = absurd (let no : true ≡ false = rw none at kept in cc)
      by_nurse (Some n) some xs x m kept h =
          let works = on-duty I P feasible r k hr hk in
          let known = feasible.plan.nursed r k n some in
          both_ways (is_empty (working I k)) (some-works I k n known (rw some at works)) h
