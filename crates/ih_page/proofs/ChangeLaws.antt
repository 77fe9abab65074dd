-- The changes are exactly the patients whose stays differ, and the shifts in which a room's nurse differs.
use Rattle.std.proofs.Common.{◌≡◌, ◌∙◌, ℕ, ◌<◌, refl, sym, ap, subst, Bool, true, false, Option, Some, None}
use Rattle.std.specs.Prelude.{◌≢◌, ◌↔◌, ◌==◌, not}
use Rattle.std.proofs.lemmas.Bool.{and_parts, eq-eqb, eqb-true}
use Rattle.ih_tables.specs.declared.drafts.Draft.{Draft}
use Rattle.ih_tables.specs.Sizes.{patient_count, shift_count}
use Rattle.ih_plan.specs.declared.moves.Placement.{Placement}
use Rattle.ih_plan.specs.Sums.{is_listed, which_below}
use Rattle.ih_plan.specs.Timetable.{Timetable, care_of, stay_of}
use Rattle.ih_plan.proofs.ListedBelow.{has-listed, has-which_below, which_below-has}
use Rattle.ih_changes.specs.Changes.{is_same_nurse, is_same_stay}
use Rattle.ih_page.specs.Laws.{ChangesAreListed}

-- ---- the test of stays

-- a placement of these numbers
abbrev placed : ℕ → ℕ → ℕ → Placement
placed d r t = record { day = record { 0 = d }; room = record { 0 = r }; theatre = record { 0 = t } }

same-placed : (a b : Placement) → a.day.0 ≡ b.day.0 → a.room.0 ≡ b.room.0 → a.theatre.0 ≡ b.theatre.0 → a ≡ b
same-placed a b day room theatre =
    ap (λ (d : ℕ). placed d a.room.0 a.theatre.0) day
    ∙ (ap (λ (r : ℕ). placed b.day.0 r a.theatre.0) room ∙ ap (λ (t : ℕ). placed b.day.0 b.room.0 t) theatre)

same-stay : (o n : Option Placement) → is_same_stay o n ≡ true → o ≡ n
same-stay None None e = refl
same-stay None (Some b) e = absurd (let no : false ≡ true = e in cc)
same-stay (Some a) None e = absurd (let no : false ≡ true = e in cc)
same-stay (Some a) (Some b) e =
    let day = and_parts (a.day.0 == b.day.0) _ e in
    let rest = and_parts (a.room.0 == b.room.0) (a.theatre.0 == b.theatre.0) day.1 in
    ap Some (same-placed a b (eqb-true a.day.0 b.day.0 day.0) (eqb-true a.room.0 b.room.0 rest.0) (eqb-true a.theatre.0 b.theatre.0 rest.1))

itself : (o : Option Placement) → is_same_stay o o ≡ true
itself None = refl
itself (Some a) = rw (eq-eqb a.day.0 a.day.0 refl, eq-eqb a.room.0 a.room.0 refl, eq-eqb a.theatre.0 a.theatre.0 refl) refl

-- ---- the test of nurses

same-nurse : (o n : Option ℕ) → is_same_nurse o n ≡ true → o ≡ n
same-nurse None None e = refl
same-nurse None (Some b) e = absurd (let no : false ≡ true = e in cc)
same-nurse (Some a) None e = absurd (let no : false ≡ true = e in cc)
same-nurse (Some a) (Some b) e = ap Some (eqb-true a b e)

nurse-itself : (o : Option ℕ) → is_same_nurse o o ≡ true
nurse-itself None = refl
nurse-itself (Some a) = eq-eqb a a refl

-- ---- what a test of sameness says

-- a test that says whether two things are the same
pub record IsSameness {A : Type 0} (same : A → A → Bool) : Type 0 where
  pub means : (a b : A) → same a b ≡ true → a ≡ b
  pub itself : (a : A) → same a a ≡ true

module _ {A : Type 0} (same : A → A → Bool) (is : IsSameness same) where
  differ : (o n : A) → not (same o n) ≡ true → o ≢ n
  differ o n e = λ equal.
      let again : not (same o o) ≡ true = subst (λ (m : A). not (same o m) ≡ true) (sym equal) e in
      let no : false ≡ true = sym (ap not (is.itself o)) ∙ again in
      cc

  differs : (o n : A) → o ≢ n → not (same o n) ≡ true
  differs o n apart = by (same o n) refl
    where
      by : (b : Bool) → same o n ≡ b → not b ≡ true
      by true e = absurd (apart (is.means o n e))
      by false e = refl

  -- the numbers below n at which two things differ
  exactly : (f g : ℕ → A) (n k : ℕ) → (is_listed k (which_below n (λ i. not (same (f i) (g i)))) ≡ true) ↔ ((k < n) × (f k ≢ g k))
  exactly f g n k =
      let other = λ (i : ℕ). not (same (f i) (g i)) in (
        λ listed.
            let found = which_below-has n k other (has-listed k (which_below n other) ∙ listed) in
            (found.0, differ (f k) (g k) found.1),
        λ h. sym (has-listed k (which_below n other)) ∙ (has-which_below n k other h.0 ∙ differs (f k) (g k) h.1),
      )

pub changes-listed : (I : Draft) (O P : Timetable) → ChangesAreListed I O P
changes-listed I O P = record {
  patients = exactly is_same_stay (record { means = same-stay; itself = itself }) (stay_of O) (stay_of P) (patient_count I);
  shifts = λ r. exactly is_same_nurse (record { means = same-nurse; itself = nurse-itself }) (care_of O r) (care_of P r) (shift_count I);
}
