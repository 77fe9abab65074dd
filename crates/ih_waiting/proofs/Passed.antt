-- A text of nobody's lines is of nobody who waits.
use Rattle.std.proofs.Common.{◌≡◌, ℕ, zero, suc, ◌+◌, ◌<◌, refl, sym, ◌∙◌, ap, arith, inl, inr, Bool, true, false, List, [], ◌∷◌, ◌++◌, length}
use Rattle.std.specs.Prelude.{codes, flat_map, if◌then◌else◌, Option, Some, None, slice_get}
use Rattle.std.proofs.lemmas.Bool.{cases_lt}
use Rattle.ih_tables.specs.declared.drafts.Draft.{Draft}
use Rattle.ih_tables.specs.declared.drafts.Patient.{Patient}
use Rattle.ih_tables.specs.Sizes.{patient_count}
use Rattle.ih_plan.specs.declared.moves.Placement.{Placement}
use Rattle.ih_plan.specs.Sums.{which_below}
use Rattle.ih_plan.specs.Timetable.{Timetable, stay_of}
use Rattle.ih_fill.specs.Fill.{is_waiting}
use Rattle.ih_solution.specs.Solution.{patient_id}
use Rattle.ih_waiting.specs.Admissions.{cheapest_admission}
use Rattle.ih_waiting.specs.Sentences.{line_text}
use Rattle.ih_waiting.specs.Waiting.{day_text, lines_of, patient_line, waiting_text}
use Rattle.ih_waiting.proofs.LineSteps.{lines-more}

-- ---- empty texts

empty-front : (xs ys : List ℕ) → xs ++ ys ≡ [] → xs ≡ []
empty-front [] ys e = refl
empty-front (x ∷ xs) ys e = absurd (let no : x ∷ (xs ++ ys) ≡ [] = e in cc)

empty-back : (xs ys : List ℕ) → xs ++ ys ≡ [] → ys ≡ []
empty-back [] ys e = e
empty-back (x ∷ xs) ys e = absurd (let no : x ∷ (xs ++ ys) ≡ [] = e in cc)

not-empty : (x : ℕ) (xs : List ℕ) → x ∷ xs ≡ [] → ⊥
not-empty x xs e = cc

some-line : (id : List ℕ) (m : Bool) (day : List ℕ) → line_text id m day ≡ [] → ⊥
unfolding line_text
some-line id true day e = not-empty 32 _ (empty-back id (codes " must come, and could on " ++ (day ++ codes "\n")) e)
some-line id false day e = not-empty 32 _ (empty-back id (codes " could come on " ++ (day ++ codes "\n")) e)

no-line : (I : Draft) (P : Timetable) (m : Bool) (p : ℕ) → patient_line I P m p ≡ [] → ⊥
unfolding patient_line
no-line I P m p e = some-line (patient_id I p) m (day_text I P p (cheapest_admission I P p)) e

-- a text of no lines has none of a number that passes
none-passes : (f : ℕ → List ℕ) (q : ℕ → Bool) (n p : ℕ) → flat_map f (which_below n q) ≡ [] → p < n → q p ≡ true → f p ≡ []
none-passes f q zero p e below passes = absurd (omega arith)
none-passes f q (suc n) p e below passes =
    let one : suc n ≡ n + 1 = omega arith in
    let parts : flat_map f (which_below n q) ++ (if q n then f n else []) ≡ [] =
    sym (lines-more f q n) ∙ (ap (λ m. flat_map f (which_below m q)) (sym one) ∙ e) in
    elim (cases_lt p n) [
      | inl before ↦ none-passes f q n p (empty-front (flat_map f (which_below n q)) (if q n then f n else []) parts) before passes
      | inr after ↦
          let same : n ≡ p = omega arith in
          let last = empty-back (flat_map f (which_below n q)) (if q n then f n else []) parts in
          sym (ap (λ (b : Bool). if b then f p else []) passes) ∙ (ap (λ m. if q m then f m else []) (sym same) ∙ last)
    ]

-- ---- those who wait

none-of : (I : Draft) (P : Timetable) (m : Bool) (p : ℕ) → lines_of I P m ≡ [] → p < patient_count I → is_waiting I P m p ≡ true → ⊥
unfolding lines_of
none-of I P m p e below waits = no-line I P m p (none-passes (patient_line I P m) (is_waiting I P m) (patient_count I) p e below waits)

present : {A : Type 0} (xs : List A) (k : ℕ) → k < length xs → slice_get xs k ≡ None → ⊥
present [] k h e = omega arith
present (x ∷ xs) zero h e = let no : Some x ≡ None = e in cc
present (x ∷ xs) (suc k) h e = present xs k (omega arith) e

waits-as : (I : Draft) (P : Timetable) (p : ℕ) (a : Patient) → stay_of P p ≡ None → slice_get I.patients p ≡ Some a
    → (m : Bool) → a.mandatory ≡ m → is_waiting I P m p ≡ true
waits-as I P p a out known true e = rw (out, known, e) refl
waits-as I P p a out known false e = rw (out, known, e) refl

said-of : (I : Draft) (P : Timetable) (p : ℕ) (a : Patient) → waiting_text I P ≡ [] → p < patient_count I → stay_of P p ≡ None → slice_get I.patients p ≡ Some a
    → (m : Bool) → a.mandatory ≡ m → ⊥
unfolding waiting_text
said-of I P p a e below out known true m =
    none-of I P true p (empty-front (lines_of I P true) (lines_of I P false) e) below (waits-as I P p a out known true m)
said-of I P p a e below out known false m =
    none-of I P false p (empty-back (lines_of I P true) (lines_of I P false) e) below (waits-as I P p a out known false m)

pub nobody-waits : (I : Draft) (P : Timetable) → waiting_text I P ≡ [] → (p : ℕ) → p < patient_count I → (place : Placement) × (stay_of P p ≡ Some place)
nobody-waits I P e p below = by_stay (stay_of P p) refl
  where
    by_patient : (o : Option Patient) → slice_get I.patients p ≡ o → stay_of P p ≡ None → ⊥
    by_patient None none out = present I.patients p below none
    by_patient (Some a) known out = said-of I P p a e below out known a.mandatory refl

    by_stay : (o : Option Placement) → stay_of P p ≡ o → (place : Placement) × (stay_of P p ≡ Some place)
    by_stay None out = absurd (by_patient (slice_get I.patients p) refl out)
    by_stay (Some place) is = (place, is)
