-- The greatest sizes of an instance, by which the number of a cell stays small, and where the numbers of each kind
-- begin.
use Rattle.std.specs.Prelude.{◌≡◌, ℕ, ◌≤◌}
use Rattle.ih_tables.specs.Sizes.{NumberingState}
use Rattle.ih_plan.specs.Cells.{theatre_days_from, surgeon_days_from, room_shifts_from, nurse_shifts_from, cares_from}

pub record AreLimited (z : NumberingState) : Type 0 where
  pub some_day : 1 ≤ z.days
  pub days : z.days ≤ 56
  pub patients : z.patients ≤ 2048
  pub occupants : z.occupants ≤ 512
  pub rooms : z.rooms ≤ 128
  pub theatres : z.theatres ≤ 64
  pub surgeons : z.surgeons ≤ 128
  pub nurses : z.nurses ≤ 512

-- where the numbers of each kind of cell but the first two begin
pub record AreFirsts (z : NumberingState)
    (first_theatre_day first_surgeon_day first_room_shift first_nurse_shift first_care : ℕ) : Type 0 where
  pub theatre_days : first_theatre_day ≡ theatre_days_from z
  pub surgeon_days : first_surgeon_day ≡ surgeon_days_from z
  pub room_shifts : first_room_shift ≡ room_shifts_from z
  pub nurse_shifts : first_nurse_shift ≡ nurse_shifts_from z
  pub cares : first_care ≡ cares_from z

-- the sizes with these numbers
abbrev pub as_sizes : (days patients occupants rooms theatres surgeons nurses : ℕ) → NumberingState
as_sizes days patients occupants rooms theatres surgeons nurses = record {
  days = days;
  patients = patients;
  occupants = occupants;
  rooms = rooms;
  theatres = theatres;
  surgeons = surgeons;
  nurses = nurses;
}

-- Within the limits, and these begin where they do for the sizes.
abbrev pub AreLaidOut : NumberingState
    → (first_theatre_day first_surgeon_day first_room_shift first_nurse_shift first_care : ℕ) → Type 0
AreLaidOut z first_theatre_day first_surgeon_day first_room_shift first_nurse_shift first_care =
    AreLimited z × AreFirsts z first_theatre_day first_surgeon_day first_room_shift first_nurse_shift first_care
