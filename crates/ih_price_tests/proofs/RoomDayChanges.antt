-- What a ledger of room days has on a ward of two rooms and two days.
use Rattle.std.proofs.Common.{◌≡◌, ℕ, ◌<◌, arith}
use Rattle.ih_tables.specs.declared.drafts.Draft.{Draft}
use Rattle.ih_tables.specs.Sizes.{room_count}
use Rattle.ih_plan.specs.Timetable.{Timetable}
use Rattle.ih_roomdays.specs.declared.room_lists.RoomLists.{RoomLists}
use Rattle.ih_roomdays.specs.Ledger.{IsLedgerOf}

pub room-there : (I : Draft) (P : Timetable) (v : RoomLists) → room_count I ≡ 2 → IsLedgerOf I P v → 0 < v.rooms
room-there I P v two stands = let rooms = stands.rooms in omega arith

pub day-there : (I : Draft) (P : Timetable) (v : RoomLists) (d : ℕ) → I.days ≡ 2 → d < 2 → IsLedgerOf I P v → d < v.days
day-there I P v d two below stands = let days = stands.days in omega arith
