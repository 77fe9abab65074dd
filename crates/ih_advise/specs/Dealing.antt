-- Which worker looks for advice on which choice.
use Rattle.std.specs.Prelude.{◌≡◌, ℕ, ◌+◌, ◌*◌, ◌/◌, ◌%◌, ◌<◌, ◌≤◌, List, [], Option, Some, length, slice_get, slice_index_or, option_and_then, vec_capacity}
use Rattle.ih_tables.specs.declared.drafts.Draft.{Draft}
use Rattle.ih_plan.specs.Timetable.{Timetable}
use Rattle.ih_fill.specs.declared.choices.Choice.{Choice}
use Rattle.ih_advise.specs.declared.choosing.Advice.{Advice}
use Rattle.ih_advise.specs.declared.findings.Findings.{Findings}
use Rattle.ih_advise.specs.Advising.{advice_on}

-- Worker w of n has found what is advised on its choices: the first is that with number w, and each other n numbers on.
pub record HasAnswered (I : Draft) (hard : ℕ) (P : Timetable) (cs : List Choice) (n w : ℕ)
    (found : List (Option Advice)) : Type 0 where
  pub each : (k : ℕ) (c : Choice) → slice_get cs (w + k * n) ≡ Some c → slice_get found k ≡ Some (advice_on I hard P c)

-- each of n workers has
pub record HaveAnswered (I : Draft) (hard : ℕ) (P : Timetable) (cs : List Choice) (n : ℕ) (findings : List Findings)
    : Type 0 where
  pub len : length findings ≡ n
  pub each : (w : ℕ) (d : Findings) → w < n → HasAnswered I hard P cs n w (slice_index_or findings w d).found.items

-- Nothing is found yet, and there is room for what one of n workers is to find on so many choices.
pub record IsReady (count n : ℕ) (f : Findings) : Type 0 where
  pub none : f.found.items ≡ []
  pub room : count ≤ vec_capacity f.found * n

-- what was found on the choice with a number
abbrev pub found_of : List Findings → ℕ → Option Advice
found_of findings number =
    option_and_then
    (λ (f : Findings). option_and_then (λ (o : Option Advice). o) (slice_get f.found.items (number / length findings)))
    (slice_get findings (number % length findings))
