-- Where no rule is broken nothing is said.
use Rattle.std.proofs.Common.{◌≡◌, ℕ, zero, suc, refl, sym, ◌∙◌, ap, true, false, List, [], ◌∷◌}
use Rattle.std.specs.Prelude.{ℤ, pos, negsuc, int_lt, if◌then◌else◌}
use Rattle.std.proofs.lemmas.Bool.{and_parts, eqb-true}
use Rattle.ih_tables.specs.declared.bills.Bill.{Bill}
use Rattle.ih_tables.specs.declared.drafts.Draft.{Draft}
use Rattle.ih_tables.specs.Bills.{all_zero, at, feasible, is_zero}
use Rattle.ih_plan.specs.BillOf.{bill_of}
use Rattle.ih_plan.specs.Timetable.{Timetable}
use Rattle.ih_validate.specs.Report.{lines_below}
use Rattle.ih_mends.specs.Mends.{breaches, mend}
use Rattle.ih_mends.specs.Sentences.{line_text, rule_text}
use Rattle.ih_mends.specs.Texts.{mend_text, mends_text, rule_line}

zero-is : (x : ℤ) → is_zero x ≡ true → x ≡ pos 0
zero-is (pos n) h = ap pos (eqb-true n 0 h)
zero-is (negsuc n) h = absurd (let no : false ≡ true = h in cc)

zero-each : (xs : List ℤ) (k : ℕ) → all_zero xs ≡ true → at xs k ≡ pos 0
zero-each [] k h = refl
zero-each (x ∷ xs) zero h = zero-is x (and_parts (is_zero x) (all_zero xs) h).0
zero-each (x ∷ xs) (suc k) h = zero-each xs k (and_parts (is_zero x) (all_zero xs) h).1

none-said : (n : ℕ) (f : ℕ → List ℕ) → ((k : ℕ) → f k ≡ []) → lines_below n f ≡ []
unfolding lines_below
none-said zero f h = refl
none-said (suc n) f h = rw (none-said n f h, h n) refl

kept-silent : (I : Draft) (P : Timetable) (k : ℕ) → breaches I P k ≡ pos 0 → rule_line I P k ≡ []
unfolding rule_line
kept-silent I P k e = ap (λ (x : ℤ). if int_lt (pos 0) x then line_text (rule_text k) x (mend_text I P (mend I P k)) else []) e

pub feasible-silent : (I : Draft) (P : Timetable) (b : Bill) → b ≡ bill_of I P → feasible b ≡ true → mends_text I P ≡ []
unfolding mends_text
feasible-silent I P b e h =
    let kept : all_zero (bill_of I P).v ≡ true = ap feasible (sym e) ∙ h in
    none-said 9 (rule_line I P) (λ k. kept-silent I P k (zero-each (bill_of I P).v k kept))
