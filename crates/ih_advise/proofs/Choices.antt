-- What is advised on a choice, from its best replacement.
use Rattle.std.proofs.Common.{◌≡◌, refl, sym, ap, ◌∙◌, arith, Bool, true, false, Some, None}
use Rattle.std.specs.Prelude.{ℕ, ℤ, pos, ◌<ℤ◌, ◌≤ℤ◌, int_lt, if◌then◌else◌}
use Rattle.std.proofs.lemmas.Int.{ints}
use Rattle.ih_tables.specs.declared.bills.Bill.{Bill}
use Rattle.ih_tables.specs.declared.drafts.Draft.{Draft}
use Rattle.ih_plan.specs.Timetable.{Timetable}
use Rattle.ih_plan.specs.Writes.{put}
use Rattle.ih_plan.specs.BillOf.{change_of_bill}
use Rattle.ih_fill.specs.declared.candidates.Candidate.{Candidate}
use Rattle.ih_fill.specs.declared.choices.Choice.{Choice}
use Rattle.ih_replacements.specs.Replacements.{best_of, best_write, value_of}
use Rattle.ih_advise.specs.declared.choosing.Advice.{Advice}
use Rattle.ih_advise.specs.Advising.{advice_on, advised}

-- a candidate with its price
abbrev pub priced : Candidate → Bill → Advice
priced c price = record { write = c.write; score = c.value; price = price }

is-low : (x y : ℤ) → x ≡ y → x <ℤ pos 0 → int_lt y (pos 0) ≡ true
is-low x y e h = by_case (int_lt y (pos 0)) refl
  where
    by_case : (t : Bool) → int_lt y (pos 0) ≡ t → t ≡ true
    by_case true f = refl
    by_case false f = absurd (omega (arith, ints))

is-high : (x y : ℤ) → x ≡ y → pos 0 ≤ℤ x → int_lt y (pos 0) ≡ false
is-high x y e h = by_case (int_lt y (pos 0)) refl
  where
    by_case : (t : Bool) → int_lt y (pos 0) ≡ t → t ≡ false
    by_case true f = absurd (omega (arith, ints))
    by_case false f = refl

-- the best of a choice is advised where its value is below 0
pub best-advised : (I : Draft) (hard : ℕ) (P : Timetable) (s : Choice) (b : Candidate) (price : Bill) → b ≡ best_of I hard P s → b.value <ℤ pos 0
    → price ≡ change_of_bill I P (put b.write P) → Some (priced b price) ≡ advice_on I hard P s
unfolding advice_on
best-advised I hard P s b price is low e =
    let w = best_write I hard P s in
    let lower : int_lt (value_of I hard P w) (pos 0) ≡ true = is-low b.value (value_of I hard P w) (ap (λ (c : Candidate). c.value) is) low in
    ap (λ p. Some (priced b p)) e
    ∙ (ap (λ (c : Candidate). Some (priced c (change_of_bill I P (put c.write P)))) is
    ∙ ap (λ (t : Bool). if t then Some (advised I hard P w) else None) (sym lower))

-- and nothing otherwise
pub none-advised : (I : Draft) (hard : ℕ) (P : Timetable) (s : Choice) (b : Candidate) → b ≡ best_of I hard P s → pos 0 ≤ℤ b.value → None ≡ advice_on I hard P s
unfolding advice_on
none-advised I hard P s b is high =
    let w = best_write I hard P s in
    let higher : int_lt (value_of I hard P w) (pos 0) ≡ false = is-high b.value (value_of I hard P w) (ap (λ (c : Candidate). c.value) is) high in
    ap (λ (t : Bool). if t then Some (advised I hard P w) else None) (sym higher)
