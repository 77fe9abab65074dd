-- Who is present where, and which shifts of a stay count.
use Rattle.std.specs.Prelude.{ℕ, ◌+◌, ◌-◌, ◌*◌, ◌/◌, min, Bool, false, ◌==◌, ◌&&◌, nat_le, nat_lt, List, [], Option, Some, None, if◌then◌else◌, slice_get, slice_index, option_map}
use Rattle.std.specs.List.{range_with_len}
use Rattle.ih_tables.specs.declared.drafts.Draft.{Draft}
use Rattle.ih_tables.specs.declared.drafts.Occupant.{Occupant}
use Rattle.ih_tables.specs.Sizes.{patient_count, person_count}
use Rattle.ih_plan.specs.declared.moves.Placement.{Placement}
use Rattle.ih_plan.specs.Timetable.{Timetable, stay_of}
use Rattle.ih_plan.specs.Persons.{person_of}
use Rattle.ih_plan.specs.Sums.{which_below}

-- the day of shift k
abbrev pub day_of : ℕ → ℕ
day_of k = k / 3

-- where a person is from which day on
pub record Admission : Type 0 where
  pub room : ℕ
  pub day : ℕ

-- an admitted patient is in the room of the placement from its day on
abbrev pub placed_at : Placement → Admission
placed_at at = record { room = at.room.0; day = at.day.0 }

-- an occupant is in its room from day 0 on
abbrev pub stays_at : Occupant → Admission
stays_at o = record { room = o.room_id.0; day = 0 }

-- the admission of person x: an occupant's is day 0 in its room
unfoldable pub admission_of : Draft → Timetable → ℕ → Option Admission
admission_of I P x =
    if nat_lt x (patient_count I)
    then option_map placed_at (stay_of P x)
    else option_map stays_at (slice_get I.occupants (x - patient_count I))

-- day d is from day a on and before day b
abbrev pub in_span : ℕ → ℕ → ℕ → Bool
in_span a b d = nat_le a d && nat_lt d b

-- a stay of n days from day a on has day d
abbrev pub covers : ℕ → ℕ → ℕ → Bool
covers a n d = in_span a (a + n) d

-- a person who stays n days is in room r on day d
abbrev pub is_in : Option Admission → ℕ → ℕ → ℕ → Bool
is_in None n r d = false
is_in (Some a) n r d = (a.room == r) && covers a.day n d

-- person x is in room r on day d
abbrev pub is_present : Draft → Timetable → ℕ → ℕ → ℕ → Bool
is_present I P r d x = is_in (admission_of I P x) (person_of I x).length_of_stay r d

-- the persons in room r on day d, rising
unfoldable pub present : Draft → Timetable → ℕ → ℕ → List ℕ
present I P r d = which_below (person_count I) (is_present I P r d)

-- the day after the last counted one of a stay of n days from day a on: days past the horizon aren't counted
abbrev pub end_from : Draft → ℕ → ℕ → ℕ
end_from I a n = min (a + n) I.days

-- the day after the last counted one of patient p's stay with a placement: days past the horizon aren't counted
abbrev pub end_of : Draft → ℕ → Placement → ℕ
end_of I p at = end_from I at.day.0 (person_of I p).length_of_stay

-- the shifts of a stay of n days from day a on, as far as the horizon goes
abbrev pub shifts_from : Draft → ℕ → ℕ → List ℕ
shifts_from I a n = range_with_len (3 * a) (3 * (end_from I a n - a))

-- the counted shifts of an admission, and none without one
abbrev pub shifts_in : Draft → Option Admission → ℕ → List ℕ
shifts_in I None n = []
shifts_in I (Some a) n = shifts_from I a.day n

-- the counted shifts of person x's stay, rising; none where x isn't admitted
unfoldable pub shifts_of : Draft → Timetable → ℕ → List ℕ
shifts_of I P x = shifts_in I (admission_of I P x) (person_of I x).length_of_stay

-- shift k counted from the first of the stay
abbrev pub entry_in : Option Admission → ℕ → ℕ
entry_in None k = 0
entry_in (Some a) k = k - 3 * a.day

-- which entry of its vectors is person x's in shift k
unfoldable pub entry_of : Draft → Timetable → ℕ → ℕ → ℕ
entry_of I P x k = entry_in (admission_of I P x) k

-- the workload of person x in shift k
abbrev pub workload_of : Draft → Timetable → ℕ → ℕ → ℕ
workload_of I P k x = slice_index (person_of I x).workload (entry_of I P x k)

-- the skill that person x requires in shift k
abbrev pub skill_of : Draft → Timetable → ℕ → ℕ → ℕ
skill_of I P k x = slice_index (person_of I x).skill (entry_of I P x k)

-- the room of person x
abbrev pub room_of : Draft → Timetable → ℕ → Option ℕ
room_of I P x = option_map (λ (a : Admission). a.room) (admission_of I P x)
