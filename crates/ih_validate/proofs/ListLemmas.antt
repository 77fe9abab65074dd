-- Lists of the numbers below n that pass, and what more tests leave of them.
use Rattle.std.proofs.Common.{◌≡◌, ℕ, zero, suc, ◌+◌, ◌<◌, ◌≤◌, refl, arith, ◌∙◌, Bool, true, false, List, [], ◌∷◌, ◌++◌, length, length-append}
use Rattle.std.specs.Prelude.{if◌then◌else◌, All, ◌&&◌, ◌==◌, Option, Some, None, option_map}
use Rattle.std.specs.List.{filter}
use Rattle.std.proofs.lemmas.List.Elements.{filter-append, All-push, All-nil, All-same, All-weaker}
use Rattle.std.proofs.lemmas.List.{append-nil}
use Rattle.ih_tables.specs.declared.drafts.Draft.{Draft}
use Rattle.ih_tables.specs.Sizes.{patient_count, person_count}
use Rattle.ih_plan.specs.declared.moves.Placement.{Placement}
use Rattle.ih_plan.specs.Timetable.{Timetable, stay_of}
use Rattle.ih_plan.specs.Persons.{person_of}
use Rattle.ih_plan.specs.Presence.{Admission, admission_of, is_in, covers, is_present, present}
use Rattle.ih_plan.specs.Costs.{is_number, operated, operated_by, operated_in, surgeon_of, admitted_on}
use Rattle.ih_plan.specs.Sums.{which_below}
use Rattle.ih_plan.proofs.SumLemmas.{which_below-more, which_below-few}
use Rattle.ih_validate.specs.declared.surgery.Resource.{Resource}
use Rattle.ih_validate.specs.declared.surgery.Resource.TheVariants.{OfTheatre, OfSurgeon}
use Rattle.ih_validate.specs.Members.{residents_of}
use Rattle.ih_validate.specs.Surgery.{AreOperated, has_surgery, is_patient_of, operated_on, patients_of}

-- xs are the numbers below n that pass
pub record IsListed (p : ℕ → Bool) (n : ℕ) (xs : List ℕ) : Type 0 where
  pub listed : xs ≡ which_below n p
  pub few : length xs ≤ n

pub listed-yes : {p : ℕ → Bool} {n : ℕ} {xs : List ℕ} → IsListed p n xs → true ≡ p n → IsListed p (n + 1) (xs ++ n ∷ [])
listed-yes {p} {n} {xs} so_far e = record {
  listed = rw (which_below-more n p, ← e, so_far.listed) refl;
  few = omega (arith, length-append xs (n ∷ []), so_far.few);
}

pub listed-no : {p : ℕ → Bool} {n : ℕ} {xs : List ℕ} → IsListed p n xs → false ≡ p n → IsListed p (n + 1) xs
listed-no {p} {n} {xs} so_far e = record {
  listed = rw (which_below-more n p, ← e) so_far.listed;
  few = omega (arith, so_far.few);
}

-- each is below n, and there are at most n
pub which_below-All : (n : ℕ) (p : ℕ → Bool) → All (λ x. x < n) (which_below n p)
unfolding which_below
which_below-All zero p = All-nil (λ x. x < 0)
which_below-All (suc n) p = by_case (p n) (All-weaker (λ x. x < n) (λ x. x < suc n) (λ x h. omega arith) (which_below n p) (which_below-All n p))
  where
    by_case : (b : Bool) → All (λ x. x < suc n) (which_below n p) → All (λ x. x < suc n) (if b then which_below n p ++ n ∷ [] else which_below n p)
    by_case true rest = All-push (λ x. x < suc n) (which_below n p) n rest (omega arith)
    by_case false rest = rest

-- of the numbers that pass p, those that pass a stronger test
pub filter-which_below : (n : ℕ) (p q : ℕ → Bool) → ((i : ℕ) → q i ≡ true → p i ≡ true) → filter q (which_below n p) ≡ which_below n q
unfolding which_below
filter-which_below zero p q h = refl
filter-which_below (suc n) p q h = by_case (p n) (q n) refl (h n) (filter-which_below n p q h)
  where
    last : (c : Bool) → which_below n q ++ (if c then n ∷ [] else []) ≡ (if c then which_below n q ++ n ∷ [] else which_below n q)
    last true = refl
    last false = append-nil (which_below n q)

    by_case : (b c : Bool) → q n ≡ c → (c ≡ true → b ≡ true) → filter q (which_below n p) ≡ which_below n q
        → filter q (if b then which_below n p ++ n ∷ [] else which_below n p) ≡ (if c then which_below n q ++ n ∷ [] else which_below n q)
    by_case true c e k rest = filter-append q (which_below n p) (n ∷ []) ∙ rw (rest, e) (last c)
    by_case false true e k rest = absurd (let no : false ≡ true = k refl in cc)
    by_case false false e k rest = rest

pub all-among : (n : ℕ) (p : ℕ → Bool) (xs : List ℕ) → xs ≡ which_below n p → All (λ x. x < n) xs
all-among n p xs e = rw e (which_below-All n p)

pub few-among : (n : ℕ) (p : ℕ → Bool) (xs : List ℕ) → xs ≡ which_below n p → n ≤ 2560 → length xs ≤ 2560
few-among n p xs e h = rw e (omega (arith, which_below-few n p))

first_passes : (a b : Bool) → (a && b) ≡ true → a ≡ true
first_passes true b h = refl
first_passes false b h = h

-- those of a room's persons who are there on a day are all who are
pub present-residents : (I : Draft) (P : Timetable) (r d : ℕ) → filter (is_present I P r d) (residents_of I P r) ≡ present I P r d
unfolding present
present-residents I P r d =
    filter-which_below (person_count I) (λ x. is_number (option_map (λ (a : Admission). a.room) (admission_of I P x)) r) (is_present I P r d)
    (λ x h. in_room (admission_of I P x) (person_of I x).length_of_stay h)
  where
    in_room : (o : Option Admission) (n : ℕ) → is_in o n r d ≡ true → is_number (option_map (λ (a : Admission). a.room) o) r ≡ true
    in_room None n h = h
    in_room (Some a) n h = first_passes (a.room == r) (covers a.day n d) h

-- the same of those who have surgery in a theatre, or by a surgeon
pub operated-among : (I : Draft) (P : Timetable) (w : Resource) (d : ℕ)
    → filter (has_surgery I P w d) (patients_of I P w) ≡ operated_on I P w d
unfolding operated operated_by
operated-among I P (OfTheatre t) d =
    filter-which_below (patient_count I) (is_patient_of I P (OfTheatre t)) (has_surgery I P (OfTheatre t) d)
    (λ p h. in_theatre (stay_of P p) h)
  where
    in_theatre : (o : Option Placement) → operated_in t.0 d o ≡ true → is_number (option_map (λ (at : Placement). at.theatre.0) o) t.0 ≡ true
    in_theatre None h = h
    in_theatre (Some at) h = first_passes (at.theatre.0 == t.0) (at.day.0 == d) h
operated-among I P (OfSurgeon s) d =
    filter-which_below (patient_count I) (is_patient_of I P (OfSurgeon s)) (has_surgery I P (OfSurgeon s) d)
    (λ p h. first_passes (is_number (surgeon_of I p) s.0) (admitted_on d (stay_of P p)) h)

pub present-persons : (I : Draft) (P : Timetable) (r d : ℕ) → All (λ x. x < person_count I) (present I P r d)
unfolding present
present-persons I P r d = which_below-All (person_count I) (is_present I P r d)

pub operated-patients : (I : Draft) (P : Timetable) (w : Resource) (d : ℕ) → All (λ p. p < patient_count I) (operated_on I P w d)
unfolding operated operated_by
operated-patients I P (OfTheatre t) d = which_below-All (patient_count I) (has_surgery I P (OfTheatre t) d)
operated-patients I P (OfSurgeon s) d = which_below-All (patient_count I) (has_surgery I P (OfSurgeon s) d)

-- those who have surgery on the day, as a slice
pub are-operated : (I : Draft) (P : Timetable) (w : Resource) (d : ℕ) (today ps : List ℕ) → today ≡ operated_on I P w d → ps ≡ today
    → length ps ≤ 2560 → AreOperated I P w d ps
are-operated I P w d today ps is same few =
    let these = same ∙ is in
    record { these = these; patients = All-same (λ p. p < patient_count I) ps _ these (operated-patients I P w d); few = few }
