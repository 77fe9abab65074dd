-- The dates of the days of the horizon.
use Rattle.std.specs.Prelude.{◌≡◌, ℕ, List, [], length, Option, Some, None, pos, ◌+ℤ◌, slice_get}
use Rattle.std.specs.Option.{option_flatten, option_map_or}
use Rattle.jiff.specs.Types.{Date}
use Rattle.jiff.specs.Words.{IsEpochDay, date_text, epoch_day}

-- The date of the day so many days after the first one. There is none where the first day has none, or where the
-- calendar ends before it.
abbrev pub IsDateOf : Option Date → ℕ → Option Date → Type 0
IsDateOf None d date = date ≡ None
IsDateOf (Some first) d None = ¬ (IsEpochDay (epoch_day first +ℤ pos d))
IsDateOf (Some first) d (Some date) = epoch_day date ≡ epoch_day first +ℤ pos d

-- the dates of so many days, from the first one on
pub record AreDates (first : Option Date) (days : ℕ) (dates : List (Option Date)) : Type 0 where
  pub len : length dates ≡ days
  pub each : (d : ℕ) (date : Option Date) → slice_get dates d ≡ Some date → IsDateOf first d date

-- the date of day d, where there is one
abbrev pub known_date : List (Option Date) → ℕ → Option Date
known_date dates d = option_flatten (slice_get dates d)

-- the same as 2026-01-05, and no text where there is none
abbrev pub date_at : List (Option Date) → ℕ → List ℕ
date_at dates d = option_map_or date_text (known_date dates d) []
