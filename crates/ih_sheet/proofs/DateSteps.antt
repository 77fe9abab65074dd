-- The dates of days, one after the other.
use Rattle.std.proofs.Common.{◌≡◌, ℕ, ◌+◌, arith, refl, subst, true, false, List, [], ◌∷◌, ◌++◌, length-append, Option, Some, None, inl, inr}
use Rattle.std.specs.Prelude.{◌↔◌, IfOk, IsOk, Result, Ok, Err, pos, ◌+ℤ◌}
use Rattle.std.specs.Result.{result_ok}
use Rattle.jiff.specs.Types.{Date}
use Rattle.jiff.specs.Words.{Error, IsEpochDay, epoch_day}
use Rattle.ih_plan.proofs.ReadLemmas.{get-more}
use Rattle.ih_sheet.specs.Dates.{AreDates, IsDateOf}

-- what adding days gives, is a date of the calendar or none
pub date-added : (first : Date) (n : ℕ) (r : Result Date Error) → (IsOk r ↔ IsEpochDay (epoch_day first +ℤ pos n))
    → IfOk r (λ d. epoch_day d ≡ epoch_day first +ℤ pos n) → IsDateOf (Some first) n (result_ok r)
date-added first n (Ok d) succeeds value = value
date-added first n (Err why) succeeds value = λ day. let no : false ≡ true = succeeds.1 day in cc

pub dates-none : (first : Option Date) → AreDates first 0 []
dates-none first = record { len = refl; each = λ d date e. absurd (let no : None ≡ Some date = e in cc) }

-- one date more
pub dates-more : (first : Option Date) (n : ℕ) (before : List (Option Date)) (date : Option Date) → AreDates first n before → IsDateOf first n date
    → AreDates first (n + 1) (before ++ date ∷ [])
dates-more first n before date so_far is = record {
  len = omega (arith, so_far.len, length-append before (date ∷ []));
  each = λ d one e. elim (get-more before date one d e) [
    | inl earlier ↦ so_far.each d one earlier.1
    | inr last ↦
        let here : n ≡ d = omega (arith, so_far.len, last.0) in
        subst (λ (o : Option Date). IsDateOf first d o) last.1 (subst (λ (i : ℕ). IsDateOf first i date) here is)
  ];
}

pub ruleset date_steps = (dates-none, dates-more)
