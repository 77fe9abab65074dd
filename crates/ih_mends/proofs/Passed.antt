-- A text of no line is of no broken rule.
use Rattle.std.proofs.Common.{◌≡◌, ℕ, zero, suc, ◌<◌, refl, ◌∙◌, ap, arith, inl, inr, Bool, true, false, List, [], ◌∷◌, ◌++◌}
use Rattle.std.specs.Prelude.{ℤ, pos, ◌≤ℤ◌, int_lt, codes, if◌then◌else◌}
use Rattle.std.specs.Fmt.{signed_decimal}
use Rattle.std.proofs.lemmas.Bool.{cases_lt}
use Rattle.ih_tables.specs.declared.drafts.Draft.{Draft}
use Rattle.ih_plan.specs.Timetable.{Timetable}
use Rattle.ih_plan.proofs.TestLemmas.{not-below}
use Rattle.ih_validate.specs.Report.{lines_below}
use Rattle.ih_mends.specs.Mends.{breaches, mend}
use Rattle.ih_mends.specs.Sentences.{line_text, rule_text}
use Rattle.ih_mends.specs.Texts.{mend_text, mends_text, rule_line}

empty-front : (xs ys : List ℕ) → xs ++ ys ≡ [] → xs ≡ []
empty-front [] ys e = refl
empty-front (x ∷ xs) ys e = absurd (let no : x ∷ (xs ++ ys) ≡ [] = e in cc)

empty-back : (xs ys : List ℕ) → xs ++ ys ≡ [] → ys ≡ []
empty-back [] ys e = e
empty-back (x ∷ xs) ys e = absurd (let no : x ∷ (xs ++ ys) ≡ [] = e in cc)

not-empty : (x : ℕ) (xs : List ℕ) → x ∷ xs ≡ [] → ⊥
not-empty x xs e = cc

some-line : (rule : List ℕ) (count : ℤ) (mend : List ℕ) → line_text rule count mend ≡ [] → ⊥
unfolding line_text
some-line rule count mend e = not-empty 32 _ (empty-back rule (codes " (" ++ (signed_decimal count ++ (codes "): " ++ (mend ++ codes "\n")))) e)

silent-each : (n k : ℕ) (f : ℕ → List ℕ) → lines_below n f ≡ [] → k < n → f k ≡ []
unfolding lines_below
silent-each zero k f e h = absurd (omega arith)
silent-each (suc n) k f e h = elim (cases_lt k n) [
  | inl before ↦ silent-each n k f (empty-front (lines_below n f) (f n) e) before
  | inr after ↦
      let same : k ≡ n = omega arith in
      ap f same ∙ empty-back (lines_below n f) (f n) e
]

silent-kept : (I : Draft) (P : Timetable) (k : ℕ) → rule_line I P k ≡ [] → breaches I P k ≤ℤ pos 0
unfolding rule_line
silent-kept I P k e = by_case (int_lt (pos 0) (breaches I P k)) refl e
  where
    line : List ℕ
    line = line_text (rule_text k) (breaches I P k) (mend_text I P (mend I P k))

    by_case : (b : Bool) → int_lt (pos 0) (breaches I P k) ≡ b → (if b then line else []) ≡ [] → breaches I P k ≤ℤ pos 0
    by_case true broken e = absurd (some-line (rule_text k) (breaches I P k) (mend_text I P (mend I P k)) e)
    by_case false kept e = not-below (pos 0) (breaches I P k) kept

pub none-passed : (I : Draft) (P : Timetable) → mends_text I P ≡ [] → (k : ℕ) → k < 9 → breaches I P k ≤ℤ pos 0
unfolding mends_text
none-passed I P e k inside = silent-kept I P k (silent-each 9 k (rule_line I P) e inside)
