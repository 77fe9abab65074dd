-- Lists of who is in which room on which day.
use Rattle.std.specs.Prelude.{◌≡◌, ℕ, ◌+◌, ◌*◌, ◌^◌, ◌<◌, ◌≤◌, Bool, true, false, ◌==◌, ◌&&◌, ◌||◌, not, List, length, slice_index_or}
use Rattle.ih_links.specs.Lists.{has, list_of, IsOnce}
use Rattle.ih_links.specs.Days.{on_day}
use Rattle.ih_roomdays.specs.declared.occupancies.Crowd.{Crowd}
use Rattle.ih_roomdays.specs.declared.profiles.Profiles.{Profiles}
use Rattle.ih_roomdays.specs.declared.room_lists.RoomLists.{RoomLists}
use Rattle.ih_roomdays.specs.Profiles.{AreInRange, most_persons}
use Rattle.ih_roomdays.specs.Occupancy.{IsCrowd, nobody}
use Rattle.ih_plan.specs.Presence.{in_span}

-- the persons in room r on day d
abbrev pub persons_at : RoomLists → ℕ → ℕ → List ℕ
persons_at v r d = list_of (on_day v.links.items d) r

-- the summary of them
abbrev pub crowd_at : RoomLists → ℕ → ℕ → Crowd
crowd_at v r d = slice_index_or v.crowds.items (r * v.days + d) nobody

-- person x is in room r on day d
abbrev pub is_at : RoomLists → ℕ → ℕ → ℕ → Bool
is_at v r d x = has x (persons_at v r d)

-- Each day has a list for each room, over the numbers of the persons, who have profiles; a list has each person once,
-- and the summary beside it is theirs.
pub record AreRoomLists (v : RoomLists) : Type 0 where
  pub each_day : length v.links.items ≡ v.days
  pub each_room : (d : ℕ) → d < v.days → length (on_day v.links.items d).lists ≡ v.rooms
  pub numbers : (d : ℕ) → d < v.days → (on_day v.links.items d).nodes ≡ v.persons
  pub few_places : v.rooms * v.days < 2 ^ 32
  pub few_persons : v.persons ≤ most_persons
  pub profiles : AreInRange v.persons v.profiles
  pub once : (r d : ℕ) → d < v.days → IsOnce (persons_at v r d)
  pub known : (r d x : ℕ) → d < v.days → is_at v r d x ≡ true → x < v.persons
  pub crowds : length v.crowds.items ≡ v.rooms * v.days
  pub kept : (r d : ℕ) → d < v.days → IsCrowd v.profiles (persons_at v r d) (crowd_at v r d)

-- Nobody is in any room.
pub record AreVacant (rooms days persons : ℕ) (profiles : Profiles) (v : RoomLists) : Type 0 where
  pub rows : AreRoomLists v
  pub rooms_are : v.rooms ≡ rooms
  pub days_are : v.days ≡ days
  pub persons_are : v.persons ≡ persons
  pub profiles_are : v.profiles ≡ profiles
  pub nobody : (r d x : ℕ) → is_at v r d x ≡ false

-- The room and person x are among the rows', and so are the days from day a on and before day b.
pub record HasSpan (v : RoomLists) (room x a b : ℕ) : Type 0 where
  pub rows : AreRoomLists v
  pub room_below : room < v.rooms
  pub person : x < v.persons
  pub order : a ≤ b
  pub within : b ≤ v.days

-- y is x, and day d is from day a on and before day b
abbrev pub of_stay : ℕ → ℕ → ℕ → ℕ → ℕ → Bool
of_stay x a b d y = (y == x) && in_span a b d

-- Afterwards `now` says of each room, day and person whether it is there, given whether it was before.
pub record AreChanged (before after : RoomLists) (now : (room day person : ℕ) (was : Bool) → Bool) : Type 0 where
  pub rows : AreRoomLists after
  pub rooms : after.rooms ≡ before.rooms
  pub days : after.days ≡ before.days
  pub persons : after.persons ≡ before.persons
  pub profiles : after.profiles ≡ before.profiles
  pub each : (r d y : ℕ) → d < before.days → is_at after r d y ≡ now r d y (is_at before r d y)

-- Afterwards person x is in the room too, from day a on and before day b.
abbrev pub IsEntered : (before after : RoomLists) (room x a b : ℕ) → Type 0
IsEntered before after room x a b = AreChanged before after (λ r d y was. was || ((room == r) && of_stay x a b d y))

-- Afterwards person x is in no room from day a on and before day b.
abbrev pub IsLeft : (before after : RoomLists) (x a b : ℕ) → Type 0
IsLeft before after x a b = AreChanged before after (λ r d y was. was && not (of_stay x a b d y))
