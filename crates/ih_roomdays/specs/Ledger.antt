-- How a ledger of room days stands for a timetable.
use Rattle.std.specs.Prelude.{◌≡◌, ℕ, ◌<◌}
use Rattle.ih_tables.specs.declared.drafts.Draft.{Draft}
use Rattle.ih_tables.specs.Sizes.{room_count, person_count}
use Rattle.ih_plan.specs.Timetable.{Timetable, IsPlanOf}
use Rattle.ih_plan.specs.Presence.{is_present}
use Rattle.ih_plan.specs.Present.{ArePresent}
use Rattle.ih_roomdays.specs.declared.room_lists.RoomLists.{RoomLists}
use Rattle.ih_roomdays.specs.RoomLists.{AreRoomLists, is_at, persons_at}
use Rattle.ih_roomdays.specs.Profiles.{AreProfiles}

-- The ledger stands for the timetable P: it has the instance's rooms, days and persons with their genders and ages, and
-- a person is in a room on a day in the ledger exactly where the timetable has it so.
pub record IsLedgerOf (I : Draft) (P : Timetable) (v : RoomLists) : Type 0 where
  pub plan : IsPlanOf I P
  pub rows : AreRoomLists v
  pub rooms : v.rooms ≡ room_count I
  pub days : v.days ≡ I.days
  pub persons : v.persons ≡ person_count I
  pub profiles : AreProfiles I v.profiles
  pub each : (r d x : ℕ) → d < I.days → is_at v r d x ≡ is_present I P r d x

-- A ledger that stands for a timetable tells who is present.
abbrev pub MembersArePresent : Draft → Type 0
MembersArePresent I = (P : Timetable) (v : RoomLists) → IsLedgerOf I P v → ArePresent I P v.rooms v.days (persons_at v)
