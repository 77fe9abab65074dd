-- The days of a person's stay, and one of their shifts.
use Rattle.std.specs.Prelude.{◌<◌, ◌≤◌, ◌*◌}
use Rattle.ih_tables.specs.declared.drafts.Draft.{Draft}
use Rattle.ih_tables.specs.Sizes.{room_count}
use Rattle.ih_proposals.specs.declared.moments.StayDays.{StayDays}
use Rattle.ih_proposals.specs.declared.moments.Moment.{Moment}

-- The room and the days are in range.
pub record AreDays (I : Draft) (s : StayDays) : Type 0 where
  pub room : s.room.0 < room_count I
  pub to : s.to ≤ I.days

-- The shift is one of the days'.
pub record IsMoment (I : Draft) (m : Moment) : Type 0 where
  pub days : AreDays I m.days
  pub first : 3 * m.days.from ≤ m.shift
  pub last : m.shift < 3 * m.days.to
