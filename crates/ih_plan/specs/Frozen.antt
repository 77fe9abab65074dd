-- Choices of days before the freeze day, which a search from a start may not change.
use Rattle.std.specs.Prelude.{◌≡◌, ℕ, nat_lt, Bool, false, ◌||◌, Option, Some, None}
use Rattle.ih_tables.specs.declared.drafts.Draft.{Draft}
use Rattle.ih_plan.specs.declared.moves.Placement.{Placement}
use Rattle.ih_plan.specs.declared.moves.Write.{Write}
use Rattle.ih_plan.specs.declared.moves.Write.TheVariants.{SetStay, SetCare}
use Rattle.ih_plan.specs.Kept.{Choices, KeepsChoices}
use Rattle.ih_plan.specs.Timetable.{Timetable, stay_of}
use Rattle.ih_plan.specs.Presence.{day_of}

-- a stay that begins before the freeze day
abbrev pub is_before : ℕ → Option Placement → Bool
is_before freeze None = false
is_before freeze (Some at) = nat_lt at.day.0 freeze

-- the stays that the start begins before the freeze day, and the nurses of the days before it
abbrev pub frozen_choices : Timetable → ℕ → Choices
frozen_choices start freeze = record {
  stays = λ p. is_before freeze (stay_of start p);
  nurses = λ r k. nat_lt (day_of k) freeze;
}

-- The write is of a nurse for a shift before the freeze day, or of a stay of a patient whom the start admits before
-- that day, or to a day before it; also where the entry stays as it is.
abbrev pub is_frozen_write : Timetable → ℕ → Write → Bool
is_frozen_write start freeze (SetStay p new) = is_before freeze (stay_of start p.0) || is_before freeze new
is_frozen_write start freeze (SetCare r k n) = nat_lt (day_of k.0) freeze

-- P agrees with the start on the choices of the days before `freeze`.
pub record KeepsFrozen (I : Draft) (start : Timetable) (freeze : ℕ) (P : Timetable) : Type 0 where
  -- who is admitted before that day in the start stays as there, and so do the nurses of those days
  pub kept : KeepsChoices I start (frozen_choices start freeze) P
  -- nobody else is admitted before that day
  pub others : (p : ℕ) → is_before freeze (stay_of start p) ≡ false → is_before freeze (stay_of P p) ≡ false
