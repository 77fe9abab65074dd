-- The rows of the tables, each a list of fields.
use Rattle.std.specs.Prelude.{ℕ, ◌+◌, Bool, true, false, not, ◌||◌, List, [], ◌∷◌, length, map, Option, Some, None, codes, decimal, if◌then◌else◌, is_some, slice_get, nat_lt, ◌-◌}
use Rattle.std.specs.List.{flat_map, join_by, range_with_len}
use Rattle.std.specs.Option.{option_map_or}
use Rattle.jiff.specs.Types.{Date}
use Rattle.ih_tables.specs.declared.drafts.Draft.{Draft}
use Rattle.ih_tables.specs.declared.drafts.Occupant.{Occupant}
use Rattle.ih_tables.specs.declared.drafts.Patient.{Patient}
use Rattle.ih_tables.specs.declared.drafts.Surgeon.{Surgeon}
use Rattle.ih_tables.specs.Sizes.{nurse_count, patient_count, room_count, shift_count, theatre_count}
use Rattle.ih_tables.specs.Works.{max_load}
use Rattle.ih_plan.specs.declared.moves.Placement.{Placement}
use Rattle.ih_plan.specs.Costs.{capacity_of, delay, is_empty, load_of, operated}
use Rattle.ih_plan.specs.Presence.{day_of, present}
use Rattle.ih_plan.specs.Timetable.{Timetable, stay_of}
use Rattle.ih_solution.specs.Solution.{nurse_id, patient_id, room_id, rooms_of, shift_type_of, theatre_id}
use Rattle.ih_sheet.specs.Dates.{date_at}

abbrev pub Row : Type 0
Row = List (List ℕ)

-- the rows of f 0, .., f (n - 1), one after the other
abbrev pub rows_below : ℕ → (ℕ → List Row) → List Row
rows_below n f = flat_map f (range_with_len 0 n)

-- the names, with semicolons between them
abbrev pub listed_names : List (List ℕ) → List ℕ
listed_names names = join_by (λ name. name) (codes ";") names

abbrev pub yes_or_no : Bool → List ℕ
yes_or_no true = codes "yes"
yes_or_no false = codes "no"

abbrev pub surgeon_id : Draft → ℕ → List ℕ
surgeon_id I s = option_map_or (λ (a : Surgeon). a.id) (slice_get I.surgeons s) []

-- ---- patients

abbrev pub patient_heading : Row
patient_heading =
    codes "patient" ∷ codes "admitted" ∷ codes "day" ∷ codes "date" ∷ codes "room" ∷ codes "theatre"
    ∷ codes "surgeon" ∷ codes "minutes" ∷ codes "leaves" ∷ codes "delay" ∷ codes "mandatory" ∷ []

-- a patient who isn't admitted: no day, room, theatre or delay
abbrev pub waiting_fields : Draft → Patient → Row
waiting_fields I a =
    a.id ∷ codes "no" ∷ [] ∷ [] ∷ [] ∷ [] ∷ surgeon_id I a.surgeon_id.0 ∷ decimal a.surgery_duration ∷ [] ∷ []
    ∷ yes_or_no a.mandatory ∷ []

-- A patient with this stay. The patient leaves on the day after the last of the stay, which may be past the horizon.
abbrev pub admitted_fields : Draft → List (Option Date) → Placement → Patient → Row
admitted_fields I dates at a =
    a.id ∷ codes "yes" ∷ decimal at.day.0 ∷ date_at dates at.day.0 ∷ room_id I at.room.0 ∷ theatre_id I at.theatre.0
    ∷ surgeon_id I a.surgeon_id.0 ∷ decimal a.surgery_duration ∷ decimal (at.day.0 + a.length_of_stay)
    ∷ decimal (delay a (Some at)) ∷ yes_or_no a.mandatory ∷ []

abbrev pub patient_fields : Draft → List (Option Date) → Option Placement → Patient → Row
patient_fields I dates None a = waiting_fields I a
patient_fields I dates (Some at) a = admitted_fields I dates at a

-- a blank row stands for a number that is no patient's
abbrev pub of_patient : Draft → ℕ → (Patient → Row) → Row
of_patient I p f = option_map_or f (slice_get I.patients p) ([] ∷ [])

unfoldable pub patient_row : Draft → List (Option Date) → Timetable → ℕ → Row
patient_row I dates P p = of_patient I p (patient_fields I dates (stay_of P p))

-- a row for each patient, in number order
abbrev pub patient_rows : Draft → List (Option Date) → Timetable → List Row
patient_rows I dates P = rows_below (patient_count I) (λ p. patient_row I dates P p ∷ [])

-- ---- nurses

abbrev pub nurse_heading : Row
nurse_heading =
    codes "nurse" ∷ codes "day" ∷ codes "date" ∷ codes "shift" ∷ codes "rooms" ∷ codes "load" ∷ codes "max_load" ∷ []

-- nurse n in shift k: the rooms, their workload, and the most that it may be, which is given where n works the shift
unfoldable pub nurse_row : Draft → List (Option Date) → Timetable → ℕ → ℕ → Row
nurse_row I dates P n k =
    nurse_id I n ∷ decimal (day_of k) ∷ date_at dates (day_of k) ∷ shift_type_of I k
    ∷ listed_names (map (room_id I) (rooms_of I P n k)) ∷ decimal (load_of I P n k)
    ∷ option_map_or decimal (max_load I n k) [] ∷ []

-- nurse n works shift k, or has a room in it all the same
abbrev pub is_shown : Draft → Timetable → ℕ → ℕ → Bool
is_shown I P n k = is_some (max_load I n k) || not (is_empty (rooms_of I P n k))

-- the rows of nurse n, by shift
abbrev pub rows_of_nurse : Draft → List (Option Date) → Timetable → ℕ → List Row
rows_of_nurse I dates P n =
    rows_below (shift_count I) (λ k. if is_shown I P n k then nurse_row I dates P n k ∷ [] else [])

-- the rows of all nurses, in number order, each nurse's by shift
abbrev pub nurse_rows : Draft → List (Option Date) → Timetable → List Row
nurse_rows I dates P = rows_below (nurse_count I) (rows_of_nurse I dates P)

-- ---- rooms

abbrev pub room_heading : Row
room_heading =
    codes "room" ∷ codes "day" ∷ codes "date" ∷ codes "persons" ∷ codes "count" ∷ codes "capacity" ∷ []

-- the id of person x: patients first, then occupants
unfoldable pub person_id : Draft → ℕ → List ℕ
person_id I x =
    if nat_lt x (patient_count I) then patient_id I x
    else option_map_or (λ (o : Occupant). o.id) (slice_get I.occupants (x - patient_count I)) []

-- room r on day d: who is there, how many, and how many may be
unfoldable pub room_row : Draft → List (Option Date) → Timetable → ℕ → ℕ → Row
room_row I dates P r d =
    room_id I r ∷ decimal d ∷ date_at dates d ∷ listed_names (map (person_id I) (present I P r d))
    ∷ decimal (length (present I P r d)) ∷ decimal (capacity_of I r) ∷ []

-- a row of room r for each day
abbrev pub rows_of_room : Draft → List (Option Date) → Timetable → ℕ → List Row
rows_of_room I dates P r = rows_below I.days (λ d. room_row I dates P r d ∷ [])

-- the rows of all rooms, in number order, one for each day
abbrev pub room_rows : Draft → List (Option Date) → Timetable → List Row
room_rows I dates P = rows_below (room_count I) (rows_of_room I dates P)

-- ---- surgery

abbrev pub surgery_heading : Row
surgery_heading =
    codes "theatre" ∷ codes "day" ∷ codes "date" ∷ codes "patient" ∷ codes "surgeon" ∷ codes "minutes" ∷ []

-- the surgery of a patient in theatre t on day d
abbrev pub surgery_fields : Draft → List (Option Date) → ℕ → ℕ → Patient → Row
surgery_fields I dates t d a =
    theatre_id I t ∷ decimal d ∷ date_at dates d ∷ a.id ∷ surgeon_id I a.surgeon_id.0 ∷ decimal a.surgery_duration ∷ []

unfoldable pub surgery_row : Draft → List (Option Date) → ℕ → ℕ → ℕ → Row
surgery_row I dates t d p = of_patient I p (surgery_fields I dates t d)

-- the surgeries in theatre t on day d, by the number of the patient
abbrev pub rows_of_day : Draft → List (Option Date) → Timetable → ℕ → ℕ → List Row
rows_of_day I dates P t d = map (surgery_row I dates t d) (operated I P t d)

-- the surgeries in theatre t, by day
abbrev pub rows_of_theatre : Draft → List (Option Date) → Timetable → ℕ → List Row
rows_of_theatre I dates P t = rows_below I.days (rows_of_day I dates P t)

-- the surgeries in all theatres, in number order, each theatre's by day
abbrev pub surgery_rows : Draft → List (Option Date) → Timetable → List Row
surgery_rows I dates P = rows_below (theatre_count I) (rows_of_theatre I dates P)
