-- A room on a day.
use Rattle.std.specs.Prelude.{◌<◌}
use Rattle.ih_tables.specs.declared.drafts.Draft.{Draft}
use Rattle.ih_tables.specs.Sizes.{room_count}
use Rattle.ih_proposals.specs.declared.room_days.RoomDay.{RoomDay}

-- Both are in range.
pub record IsRoomDay (I : Draft) (at : RoomDay) : Type 0 where
  pub room : at.room.0 < room_count I
  pub day : at.day.0 < I.days
