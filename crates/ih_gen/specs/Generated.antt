-- The instance that a number generates, as JSON without spaces; the keys of an object stand in the order of their
-- bytes.
use Rattle.std.specs.Prelude.{ℕ, ◌+◌, ◌-◌, ◌*◌, ◌/◌, ◌%◌, ◌==◌, nat_lt, min, Bool, List, [], ◌∷◌, ◌++◌, codes, decimal, map, Option, Some, None, if◌then◌else◌}
use Rattle.serde_json.specs.Data.{Data, boolean, string, object, Members, no_members, member}
use Rattle.serde_json.specs.Written.{compact_text}
use Rattle.ih_plan.specs.Draws.{state_after}
use Rattle.ih_plan.specs.Sums.{which_below, count_below}
use Rattle.ih_tables.specs.Listed.{listed}
use Rattle.ih_solution.specs.Solution.{number_data, list_data}
use Rattle.ih_gen.specs.declared.persons.PersonPicks.{PersonPicks}
use Rattle.ih_gen.specs.declared.patients.PatientPicks.{PatientPicks}
use Rattle.ih_gen.specs.Words.{stream_of, pick, begins, in_a_row}

-- ---- names and lists

-- a letter and a number
abbrev pub id_data : List ℕ → ℕ → Data
id_data letter n = string (letter ++ decimal n)

abbrev pub gender_name : ℕ → List ℕ
gender_name g = if g == 0 then codes "A" else codes "B"

abbrev pub age_name : ℕ → List ℕ
age_name a = if a == 0 then codes "infant"
    else if a == 1 then codes "child"
    else if a == 2 then codes "adult"
    else codes "elderly"

abbrev pub shift_name : ℕ → List ℕ
shift_name k = if k == 0 then codes "early" else if k == 1 then codes "late" else codes "night"

-- the same number on each of n days
unfoldable pub each_day : ℕ → ℕ → Data
each_day n minutes = list_data (listed n (λ d. number_data minutes))

-- ---- rooms

-- a room for 1 to 3 persons
abbrev pub room_data : ℕ → List ℕ → Data
room_data r s = object
    (member (codes "capacity") (number_data (1 + pick s 0 3))
    (member (codes "id") (id_data (codes "r") r) no_members))

abbrev pub room_words : ℕ → List ℕ → ℕ
room_words r s = 1

-- ---- nurses

-- the shift type of nurse n on day d; the fourth in turn is a day off
abbrev pub turn_of : ℕ → ℕ → ℕ
turn_of n d = (n + d) % 4

abbrev pub works : ℕ → ℕ → Bool
works n d = nat_lt (turn_of n d) 3

-- a shift of a type on a day, with the maximum load
abbrev pub shift_data : ℕ → ℕ → ℕ → Data
shift_data day turn load = object
    (member (codes "day") (number_data day)
    (member (codes "max_load") (number_data load)
    (member (codes "shift") (string (shift_name turn)) no_members)))

-- the worked shift of nurse n on day d, whose load is picked after those of the days before
abbrev pub worked_data : ℕ → List ℕ → ℕ → Data
worked_data n s d = shift_data d (turn_of n d) (5 + pick s (count_below d (works n)) 11)

-- A nurse's skill is picked first, then the loads.
abbrev pub nurse_data : ℕ → ℕ → List ℕ → Data
nurse_data days n s = object
    (member (codes "id") (id_data (codes "n") n)
    (member (codes "skill_level") (number_data (pick s 0 3))
    (member (codes "working_shifts") (list_data (map (worked_data n (state_after 1 s)) (which_below days (works n))))
    no_members)))

abbrev pub nurse_words : ℕ → ℕ → List ℕ → ℕ
nurse_words days n s = 1 + count_below days (works n)

-- ---- persons

-- For each shift of a stay a workload and a skill are picked, in turns.
abbrev pub workloads : List ℕ → ℕ → List Data
workloads s shifts = listed shifts (λ k. number_data (1 + pick s (2 * k) 3))

abbrev pub skills : List ℕ → ℕ → List Data
skills s shifts = listed shifts (λ k. number_data (pick s (2 * k + 1) 3))

-- what is picked of a person first, where a stay has up to n days
abbrev pub person_picks : List ℕ → ℕ → PersonPicks
person_picks s n = record { gender = pick s 0 2; age_group = pick s 1 4; length_of_stay = 1 + pick s 2 n }

-- an occupant of the room of the same number
abbrev pub occupant_members : ℕ → PersonPicks → List Data → List Data → Members
occupant_members n a skills workloads =
    member (codes "age_group") (string (age_name a.age_group))
    (member (codes "gender") (string (gender_name a.gender))
    (member (codes "id") (id_data (codes "a") n)
    (member (codes "length_of_stay") (number_data a.length_of_stay)
    (member (codes "room_id") (id_data (codes "r") n)
    (member (codes "skill_level_required") (list_data skills)
    (member (codes "workload_produced") (list_data workloads) no_members))))))

abbrev pub occupant_data : ℕ → List ℕ → Data
occupant_data n s =
    let a = person_picks s 5 in
    let shifts = 3 * a.length_of_stay in
    object (occupant_members n a (skills (state_after 3 s) shifts) (workloads (state_after 3 s) shifts))

abbrev pub occupant_words : ℕ → List ℕ → ℕ
occupant_words n s = 3 + 2 * (3 * (person_picks s 5).length_of_stay)

abbrev pub is_mandatory : ℕ → Bool
is_mandatory p = p % 20 == 0

abbrev pub surgeon_of : ℕ → ℕ
surgeon_of p = (p / 20 + p % 20) % 10

-- what is picked for a patient before the needs of the stay
abbrev pub patient_picks : List ℕ → PatientPicks
patient_picks s = record {
  person = person_picks s 6;
  release_day = pick s 3 28;
  slack = pick s 4 8;
  duration = 30 + 30 * pick s 5 4;
  incompatible_room = pick s 6 25;
}

-- the due day of a mandatory patient: the slack after the release day, cut at the last day
abbrev pub due_day : ℕ → ℕ → PatientPicks → Option ℕ
due_day days p a = if is_mandatory p then Some (min (a.release_day + a.slack) (days - 1)) else None

-- a due day, where there is one, before the rest
abbrev pub due_member : Option ℕ → Members → Members
due_member None rest = rest
due_member (Some due) rest = member (codes "surgery_due_day") (number_data due) rest

abbrev pub patient_members : ℕ → PatientPicks → Option ℕ → List Data → List Data → Members
patient_members p a due skills workloads =
    member (codes "age_group") (string (age_name a.person.age_group))
    (member (codes "gender") (string (gender_name a.person.gender))
    (member (codes "id") (id_data (codes "p") p)
    (member (codes "incompatible_room_ids") (list_data (id_data (codes "r") a.incompatible_room ∷ []))
    (member (codes "length_of_stay") (number_data a.person.length_of_stay)
    (member (codes "mandatory") (boolean (is_mandatory p))
    (member (codes "skill_level_required") (list_data skills)
    (member (codes "surgeon_id") (id_data (codes "s") (surgeon_of p))
    (due_member due
    (member (codes "surgery_duration") (number_data a.duration)
    (member (codes "surgery_release_day") (number_data a.release_day)
    (member (codes "workload_produced") (list_data workloads) no_members)))))))))))

abbrev pub patient_data : ℕ → ℕ → List ℕ → Data
patient_data days p s =
    let a = patient_picks s in
    let shifts = 3 * a.person.length_of_stay in
    object
    (patient_members p a (due_day days p a) (skills (state_after 7 s) shifts) (workloads (state_after 7 s) shifts))

abbrev pub patient_words : ℕ → List ℕ → ℕ
patient_words p s = 7 + 2 * (3 * (patient_picks s).person.length_of_stay)

-- ---- the file

-- the surgeons, with 480 minutes on each day
abbrev pub surgeon_data : ℕ → ℕ → Data
surgeon_data days s = object
    (member (codes "id") (id_data (codes "s") s)
    (member (codes "max_surgery_time") (each_day days 480) no_members))

-- the theatres, with 600 minutes on each day
abbrev pub theatre_data : ℕ → ℕ → Data
theatre_data days t = object
    (member (codes "availability") (each_day days 600)
    (member (codes "id") (id_data (codes "t") t) no_members))

-- the first n of them
unfoldable pub numbered : (ℕ → Data) → ℕ → Data
numbered thing n = list_data (listed n thing)

abbrev pub age_groups_data : Data
age_groups_data = list_data (string (age_name 0) ∷ string (age_name 1) ∷ string (age_name 2) ∷ string (age_name 3) ∷ [])

abbrev pub shift_types_data : Data
shift_types_data = list_data (string (shift_name 0) ∷ string (shift_name 1) ∷ string (shift_name 2) ∷ [])

abbrev pub weights_data : Data
weights_data = object
    (member (codes "continuity_of_care") (number_data 5)
    (member (codes "nurse_eccessive_workload") (number_data 1)
    (member (codes "open_operating_theater") (number_data 30)
    (member (codes "patient_delay") (number_data 10)
    (member (codes "room_mixed_age") (number_data 5)
    (member (codes "room_nurse_skill") (number_data 10)
    (member (codes "surgeon_transfer") (number_data 10)
    (member (codes "unscheduled_optional") (number_data 300) no_members))))))))

-- The picks are made in this order: rooms, nurses, occupants, patients; from these words the last three are made.
abbrev pub nurse_stream : ℕ → List ℕ
nurse_stream number = begins room_words 25 (stream_of number)

abbrev pub occupant_stream : ℕ → List ℕ
occupant_stream number = begins (nurse_words 28) 50 (nurse_stream number)

abbrev pub patient_stream : ℕ → List ℕ
patient_stream number = begins occupant_words 3 (occupant_stream number)

unfoldable pub generated_data : ℕ → Data
generated_data number = object
    (member (codes "age_groups") age_groups_data
    (member (codes "days") (number_data 28)
    (member (codes "nurses") (list_data (in_a_row (nurse_data 28) (nurse_words 28) 50 (nurse_stream number)))
    (member (codes "occupants") (list_data (in_a_row occupant_data occupant_words 3 (occupant_stream number)))
    (member (codes "operating_theaters") (numbered (theatre_data 28) 5)
    (member (codes "patients") (list_data (in_a_row (patient_data 28) patient_words 400 (patient_stream number)))
    (member (codes "rooms") (list_data (in_a_row room_data room_words 25 (stream_of number)))
    (member (codes "shift_types") shift_types_data
    (member (codes "skill_levels") (number_data 3)
    (member (codes "surgeons") (numbered (surgeon_data 28) 10)
    (member (codes "weights") weights_data no_members)))))))))))

-- the text of the instance that a number generates
abbrev pub generated : ℕ → List ℕ
generated number = compact_text (generated_data number)
