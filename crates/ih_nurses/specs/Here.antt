-- Who is in each room on each day, as lists of persons.
use Rattle.std.specs.Prelude.{◌≡◌, ◌<◌, ℕ, ◌+◌, Bool, nat_lt, ◌&&◌, List, length}
use Rattle.ih_tables.specs.declared.drafts.Draft.{Draft}
use Rattle.ih_tables.specs.Sizes.{patient_count, person_count, room_count}
use Rattle.ih_links.specs.Lists.{LinksState, list_of, has}
use Rattle.ih_links.specs.Days.{on_day}
use Rattle.ih_plan.specs.Timetable.{Timetable, empty}
use Rattle.ih_plan.specs.Presence.{is_present}

-- person x is in the list of room r on day d
abbrev pub is_here : List LinksState → ℕ → ℕ → ℕ → Bool
is_here here r d x = has x (list_of (on_day here d) r)

-- Each day has a list for each room, over the numbers of the persons.
pub record AreSized (I : Draft) (here : List LinksState) : Type 0 where
  pub days : length here ≡ I.days
  pub rooms : (d : ℕ) → d < I.days → length (on_day here d).lists ≡ room_count I
  pub persons : (d : ℕ) → d < I.days → (on_day here d).nodes ≡ person_count I

-- Each room's list of each day has just the persons who are present.
pub record AreHere (I : Draft) (P : Timetable) (here : List LinksState) : Type 0 where
  pub sized : AreSized I here
  pub each : (r d x : ℕ) → r < room_count I → d < I.days → x < person_count I
      → is_here here r d x ≡ is_present I P r d x

-- The lists have the first k occupants where they are present, and nobody else.
pub record AreFilled (I : Draft) (here : List LinksState) (k : ℕ) : Type 0 where
  pub sized : AreSized I here
  pub each : (r d x : ℕ) → r < room_count I → d < I.days → x < person_count I
      → is_here here r d x ≡ (nat_lt x (patient_count I + k) && is_present I (empty I) r d x)
