-- What another stay of one patient makes of the persons in a room, and of the skill that they lack.
use Rattle.std.proofs.Common.{◌≡◌, ℕ, ◌+◌, ◌-◌, ◌<◌, refl, arith, sym, ap, Bool, true, false, inl, inr, List, [], ◌∷◌, length, map, Option, Some, None}
use Rattle.std.specs.Prelude.{◌||◌, ◌==◌, not, if◌then◌else◌, sum_by, slice_index, option_map}
use Rattle.std.proofs.lemmas.Bool.{cases_eq, eq-eqb, ne_eqb}
use Rattle.std.proofs.lemmas.List.Sums.{sum_by-cons}
use Rattle.ih_tables.specs.declared.drafts.Draft.{Draft}
use Rattle.ih_tables.specs.declared.ids.PatientNo.{PatientNo}
use Rattle.ih_tables.specs.Sizes.{patient_count, person_count}
use Rattle.ih_links.specs.Lists.{without}
use Rattle.ih_links.proofs.Members.{without-here, without-there}
use Rattle.ih_plan.specs.declared.moves.Placement.{Placement}
use Rattle.ih_plan.specs.declared.moves.Write.TheVariants.{SetStay}
use Rattle.ih_plan.specs.Timetable.{Timetable, stay_of, care_of}
use Rattle.ih_plan.specs.Writes.{put}
use Rattle.ih_plan.specs.Persons.{person_of}
use Rattle.ih_plan.specs.Presence.{admission_of, placed_at, is_in, is_present, present, day_of, entry_in, entry_of, skill_of}
use Rattle.ih_plan.specs.Costs.{is_empty, skill_missing, skill_level}
use Rattle.ih_plan.specs.Sums.{bit}
use Rattle.ih_plan.proofs.SumLemmas.{sum_below-but, sum_by-which_below}
use Rattle.ih_plan.proofs.Entries.{admission-patient, admission-same, stay_of-other}
use Rattle.ih_plan.proofs.TestLemmas.{if-none, if-bit}
use Rattle.ih_nurses.proofs.WalkLemmas.{sum-even}
use Rattle.ih_nurses.proofs.RoomLemmas.{AreAlike, sum-values}

-- ---- what one patient's stay gives to a room in a shift

-- by the stay, patient p is in room r in shift k
abbrev pub is_housed : Draft → ℕ → Option Placement → ℕ → ℕ → Bool
is_housed I p stay r k = is_in (option_map placed_at stay) (person_of I p).length_of_stay r (day_of k)

-- the skill above a level that patient p requires there in shift k
abbrev pub own_skill_above : Draft → ℕ → Option Placement → ℕ → ℕ → ℕ → ℕ
own_skill_above I p stay r k level =
    if is_housed I p stay r k then slice_index (person_of I p).skill (entry_in (option_map placed_at stay) k) - level else 0

-- the skill above the nurse's, and none where there is no nurse
abbrev pub own_missing : Draft → ℕ → Option Placement → ℕ → ℕ → Option ℕ → ℕ
own_missing I p stay r k None = 0
own_missing I p stay r k (Some n) = own_skill_above I p stay r k (skill_level I n)

-- ---- another stay

-- Q is P but for the stay of patient p.
pub record IsElse (I : Draft) (P Q : Timetable) (p : ℕ) : Type 0 where
  pub patient : p < patient_count I
  pub others : (x : ℕ) → (x ≡ p → ⊥) → stay_of Q x ≡ stay_of P x
  pub cares : (r k : ℕ) → care_of Q r k ≡ care_of P r k

pub else-put : (I : Draft) (P : Timetable) (p : PatientNo) (s : Option Placement) → p.0 < patient_count I → IsElse I P (put (SetStay p s) P) p.0
else-put I P p s patient = record { patient = patient; others = λ x ne. stay_of-other P p s x ne; cares = λ r k. refl }

pub else-self : (I : Draft) (P : Timetable) (p : ℕ) → p < patient_count I → IsElse I P P p
else-self I P p patient = record { patient = patient; others = λ x ne. refl; cares = λ r k. refl }

-- one list is longer than another by whether something more is there
more-empty : (xs ys : List ℕ) (b : Bool) → length xs ≡ length ys + bit b → not (is_empty xs) ≡ (b || not (is_empty ys))
more-empty [] [] true e = absurd (omega (arith, e))
more-empty [] [] false e = refl
more-empty [] (y ∷ ys) b e = absurd (omega (arith, e))
more-empty (x ∷ xs) [] true e = refl
more-empty (x ∷ xs) [] false e = absurd (omega (arith, e))
more-empty (x ∷ xs) (y ∷ ys) true e = refl
more-empty (x ∷ xs) (y ∷ ys) false e = refl

-- 1 for each number but p
abbrev but : ℕ → ℕ → ℕ
but p x = if x == p then 0 else 1

length-but : (p : ℕ) (xs : List ℕ) → length (without p xs) ≡ sum_by (but p) xs
length-but p [] = refl
length-but p (x ∷ xs) = elim (cases_eq x p) [
  | inl e ↦
      let one : but p x ≡ 0 = rw (eq-eqb x p e) refl in
      rw (without-here p x xs e) (omega (arith, one, length-but p xs, sum_by-cons (but p) x xs))
  | inr ne ↦
      let one : but p x ≡ 1 = rw (ne_eqb x p ne) refl in
      rw (without-there p x xs ne) (omega (arith, one, length-but p xs, sum_by-cons (but p) x xs))
]

-- two lists with the same persons have the same others than p
pub others-alike : (p : ℕ) (xs ys : List ℕ) → AreAlike xs ys → not (is_empty (without p xs)) ≡ not (is_empty (without p ys))
others-alike p xs ys alike = more-empty (without p xs) (without p ys) false (omega (arith, length-but p xs, length-but p ys, alike (but p)))

module _ {I : Draft} {P Q : Timetable} {p : ℕ} (a : IsElse I P Q p) where
  same : (x : ℕ) → (x ≡ p → ⊥) → admission_of I Q x ≡ admission_of I P x
  same x ne = admission-same I Q P x (a.others x ne)

  -- the sums over the persons present differ by what p gives
  sum-own : (f g : ℕ → ℕ) (r d : ℕ) → ((x : ℕ) → (x ≡ p → ⊥) → f x ≡ g x)
      → sum_by f (present I Q r d) + (if is_present I P r d p then g p else 0) ≡ sum_by g (present I P r d) + (if is_present I Q r d p then f p else 0)
  unfolding present
  sum-own f g r d e =
      let patient = a.patient in
      let person : p < person_count I = omega arith in
      let change = sum_below-but (person_count I) p (λ x. if is_present I Q r d x then f x else 0) (λ x. if is_present I P r d x then g x else 0) person
      (λ x xh ne. rw (same x ne, e x ne) refl) in
      omega (arith, change, sum_by-which_below f (person_count I) (is_present I Q r d), sum_by-which_below g (person_count I) (is_present I P r d))

  present-own : (r k : ℕ) → is_present I Q r (day_of k) p ≡ is_housed I p (stay_of Q p) r k
  present-own r k = rw (admission-patient I Q p a.patient) refl

  -- a room is occupied by p, or by others
  pub occupied-own : (r k : ℕ) → not (is_empty (present I Q r (day_of k))) ≡ (is_housed I p (stay_of Q p) r k || not (is_empty (without p (present I P r (day_of k)))))
  occupied-own r k =
      let own = sum-own (λ x. 1) (but p) r (day_of k) (λ x ne. sym (rw (ne_eqb x p ne) refl)) in
      let none : (if is_present I P r (day_of k) p then but p p else 0) ≡ 0 = rw (eq-eqb p p refl) (if-none (is_present I P r (day_of k) p)) in
      let here = if-bit (is_present I Q r (day_of k) p) in
      let rest = without p (present I P r (day_of k)) in
      let longer : length (present I Q r (day_of k)) ≡ length rest + bit (is_present I Q r (day_of k) p) =
      omega (arith, own, none, here, sum-even 1 (present I Q r (day_of k)), length-but p (present I P r (day_of k))) in
      rw (← present-own r k) (more-empty (present I Q r (day_of k)) rest (is_present I Q r (day_of k) p) longer)

  own-skill : (r k level : ℕ) → (if is_present I Q r (day_of k) p then skill_of I Q k p - level else 0) ≡ own_skill_above I p (stay_of Q p) r k level
  unfolding entry_of
  own-skill r k level = rw (admission-patient I Q p a.patient) refl

  other-skill : (k x : ℕ) → (x ≡ p → ⊥) → skill_of I Q k x ≡ skill_of I P k x
  unfolding entry_of
  other-skill k x ne = rw (same x ne) refl

pub missing-own : {I : Draft} {P Q : Timetable} {p : ℕ} → IsElse I P Q p → (n : Option ℕ) (r k : ℕ)
    → own_missing I p (stay_of Q p) r k n + skill_missing I n (map (skill_of I P k) (present I P r (day_of k)))
    ≡ skill_missing I n (map (skill_of I Q k) (present I Q r (day_of k))) + own_missing I p (stay_of P p) r k n
missing-own a None r k = refl
missing-own {I} {P} {Q} {p} a (Some n) r k =
    let level = skill_level I n in
    let own = sum-own a (λ x. skill_of I Q k x - level) (λ x. skill_of I P k x - level) r (day_of k) (λ x ne. ap (λ s. s - level) (other-skill a k x ne)) in
    omega (
      arith,
      own,
      own-skill a r k level,
      own-skill (else-self I P p a.patient) r k level,
      sum-values (λ s. s - level) (skill_of I Q k) (present I Q r (day_of k)),
      sum-values (λ s. s - level) (skill_of I P k) (present I P r (day_of k)),
    )
