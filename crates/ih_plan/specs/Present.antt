-- That someone tells who is present.
use Rattle.std.specs.Prelude.{◌≡◌, ◌<◌, ℕ, nat_eq, List}
use Rattle.std.specs.List.{IsDistinct}
use Rattle.ih_tables.specs.declared.drafts.Draft.{Draft}
use Rattle.ih_tables.specs.Sizes.{room_count}
use Rattle.ih_plan.specs.Timetable.{Timetable}
use Rattle.ih_plan.specs.Presence.{is_present}
use Rattle.ih_plan.specs.Sums.{is_listed}

-- For each room and day of the instance these are the persons who are present at the timetable, each once, in any
-- order.
pub record ArePresent (I : Draft) (P : Timetable) (rooms days : ℕ) (persons : ℕ → ℕ → List ℕ) : Type 0 where
  pub rooms_are : rooms ≡ room_count I
  pub days_are : days ≡ I.days
  pub once : (r d : ℕ) → r < rooms → d < days → IsDistinct nat_eq (persons r d)
  pub each : (r d x : ℕ) → r < rooms → d < days → is_listed x (persons r d) ≡ is_present I P r d x
