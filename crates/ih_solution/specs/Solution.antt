-- The solution file of a timetable, in the competition's form: each patient's stay, and each nurse's rooms shift by
-- shift. It is JSON without spaces; the keys of an object stand in the order of their bytes, so `nurses` come before
-- `patients`.
use Rattle.std.specs.Prelude.{ℕ, ◌/◌, ◌%◌, not, List, [], codes, map, Option, Some, None, slice_get}
use Rattle.std.specs.Option.{option_map_or}
use Rattle.serde_json.specs.Data.{Data, unsigned, number, string, array, object, no_members, member}
use Rattle.serde_json.specs.View.{items_of}
use Rattle.serde_json.specs.Written.{compact_text}
use Rattle.ih_tables.specs.declared.drafts.Draft.{Draft}
use Rattle.ih_tables.specs.declared.drafts.Patient.{Patient}
use Rattle.ih_tables.specs.declared.drafts.Nurse.{Nurse}
use Rattle.ih_tables.specs.declared.drafts.Room.{Room}
use Rattle.ih_tables.specs.declared.drafts.Theatre.{Theatre}
use Rattle.ih_tables.specs.Sizes.{patient_count, room_count, shift_count, nurse_count}
use Rattle.ih_plan.specs.declared.moves.Placement.{Placement}
use Rattle.ih_plan.specs.Timetable.{Timetable, stay_of, care_of}
use Rattle.ih_plan.specs.Costs.{is_number, is_empty}
use Rattle.ih_plan.specs.Sums.{which_below}
use Rattle.ih_tables.specs.Listed.{listed}

-- ---- names and numbers

abbrev pub patient_id : Draft → ℕ → List ℕ
patient_id I p = option_map_or (λ (a : Patient). a.id) (slice_get I.patients p) []

abbrev pub nurse_id : Draft → ℕ → List ℕ
nurse_id I n = option_map_or (λ (a : Nurse). a.id) (slice_get I.nurses n) []

abbrev pub room_id : Draft → ℕ → List ℕ
room_id I r = option_map_or (λ (a : Room). a.id) (slice_get I.rooms r) []

abbrev pub theatre_id : Draft → ℕ → List ℕ
theatre_id I t = option_map_or (λ (a : Theatre). a.id) (slice_get I.operating_theaters t) []

-- the name of the shift type of shift k: three shifts a day
abbrev pub shift_type_of : Draft → ℕ → List ℕ
shift_type_of I k = option_map_or (λ (a : List ℕ). a) (slice_get I.shift_types (k % 3)) []

abbrev pub number_data : ℕ → Data
number_data n = number (unsigned n)

abbrev pub list_data : List Data → Data
list_data ds = array (items_of ds)

-- ---- patients

-- A patient who is not admitted has `none` for the admission day, and no room or theatre.
abbrev pub stay_data : Draft → ℕ → Option Placement → Data
stay_data I p None = object
    (member (codes "admission_day") (string (codes "none"))
    (member (codes "id") (string (patient_id I p)) no_members))
stay_data I p (Some at) = object
    (member (codes "admission_day") (number_data at.day.0)
    (member (codes "id") (string (patient_id I p))
    (member (codes "operating_theater") (string (theatre_id I at.theatre.0))
    (member (codes "room") (string (room_id I at.room.0)) no_members))))

-- every patient, in number order
abbrev pub patients_data : Draft → Timetable → List Data
patients_data I P = listed (patient_count I) (λ p. stay_data I p (stay_of P p))

-- ---- nurses

-- the rooms of nurse n in shift k, rising
unfoldable pub rooms_of : Draft → Timetable → ℕ → ℕ → List ℕ
rooms_of I P n k = which_below (room_count I) (λ r. is_number (care_of P r k) n)

-- the shifts in which nurse n has a room, rising
unfoldable pub shifts_with_rooms : Draft → Timetable → ℕ → List ℕ
shifts_with_rooms I P n = which_below (shift_count I) (λ k. not (is_empty (rooms_of I P n k)))

-- the ids of those rooms
abbrev pub rooms_data : Draft → Timetable → ℕ → ℕ → List Data
rooms_data I P n k = map (λ r. string (room_id I r)) (rooms_of I P n k)

-- A day and a shift type, with a nurse's rooms in that shift.
abbrev pub assignment_data : Draft → ℕ → List Data → Data
assignment_data I k rooms = object
    (member (codes "day") (number_data (k / 3))
    (member (codes "rooms") (list_data rooms)
    (member (codes "shift") (string (shift_type_of I k)) no_members)))

-- the assignments of nurse n
abbrev pub assignments_data : Draft → Timetable → ℕ → List Data
assignments_data I P n = map (λ k. assignment_data I k (rooms_data I P n k)) (shifts_with_rooms I P n)

abbrev pub nurse_data : Draft → Timetable → ℕ → Data
nurse_data I P n = object
    (member (codes "assignments") (list_data (assignments_data I P n))
    (member (codes "id") (string (nurse_id I n)) no_members))

-- every nurse, in number order
abbrev pub nurses_data : Draft → Timetable → List Data
nurses_data I P = listed (nurse_count I) (nurse_data I P)

-- ---- the file

unfoldable pub solution_data : Draft → Timetable → Data
solution_data I P = object
    (member (codes "nurses") (list_data (nurses_data I P))
    (member (codes "patients") (list_data (patients_data I P)) no_members))

abbrev pub solution : Draft → Timetable → List ℕ
solution I P = compact_text (solution_data I P)
