-- The tables of an instance file, key by key.
use Rattle.std.specs.Prelude.{ℕ, ◌+◌, ◌-◌, ◌*◌, ◌&&◌, min, Bool, List, [], ◌∷◌, map, pos, not, is_some, Option, Some, None, Ok, if◌then◌else◌}
use Rattle.serde_json.specs.Data.{Data}
use Rattle.serde_json.specs.Find.{get}
use Rattle.ih_tables.specs.declared.drafts.Draft.{Draft}
use Rattle.ih_tables.specs.declared.drafts.Surgeon.{Surgeon}
use Rattle.ih_tables.specs.declared.drafts.Theatre.{Theatre}
use Rattle.ih_tables.specs.declared.drafts.Room.{Room}
use Rattle.ih_tables.specs.declared.drafts.Nurse.{Nurse}
use Rattle.ih_tables.specs.declared.drafts.WorkedShift.{WorkedShift}
use Rattle.ih_tables.specs.declared.drafts.Occupant.{Occupant}
use Rattle.ih_tables.specs.declared.drafts.Patient.{Patient}
use Rattle.ih_tables.specs.declared.ids.RoomNo.{RoomNo}
use Rattle.ih_tables.specs.declared.bills.Weights.{Weights}
use Rattle.ih_tables.specs.declared.refusals.Place.{Place}
use Rattle.ih_tables.specs.declared.refusals.Key.{Key}
use Rattle.ih_tables.specs.declared.refusals.Key.TheVariants as keys
use Rattle.ih_tables.specs.declared.refusals.Fault.TheVariants.{Duplicate, TwoWeights}
use Rattle.ih_tables.specs.Places.{key_name}
use Rattle.ih_tables.specs.Lookups.{number_in}
use Rattle.ih_tables.specs.Works.{load_in}
use Rattle.ih_format.specs.Checks.{Checked, Check, ◌>>=◌, where_so, number, text, truth, object, list, list_of, new_id, new_name, reference, under, each, vector, named}
use Rattle.ih_format.specs.Documents.{document}

-- how the numbers of names are looked up
abbrev pub Numbers : Type 0
Numbers = List ℕ → Option ℕ

-- ---- weights

abbrev pub has : Data → Key → Bool
has d k = is_some (get (key_name k) d)

-- the spelling of the fourth weight that is there, and the first where neither is
abbrev pub spelling : Data → Key
spelling d =
    if has d keys.NurseExcessiveWorkload && not (has d keys.NurseEccessiveWorkload) then keys.NurseExcessiveWorkload
    else keys.NurseEccessiveWorkload

abbrev pub one_spelling : Check Key
one_spelling p d = where_so (not (has d keys.NurseEccessiveWorkload && has d keys.NurseExcessiveWorkload)) TwoWeights p
    (spelling d)

abbrev pub weight : Place → Data → Key → Checked ℕ
weight p d k = under p d k (number 0 100000)

unfoldable pub weights : Check Weights
weights p d = do
  o ← object p d
  a ← weight p d keys.RoomMixedAge
  b ← weight p d keys.RoomNurseSkill
  c ← weight p d keys.ContinuityOfCare
  k ← one_spelling p d
  e ← weight p d k
  f ← weight p d keys.OpenOperatingTheater
  g ← weight p d keys.SurgeonTransfer
  h ← weight p d keys.PatientDelay
  i ← weight p d keys.UnscheduledOptional
  Ok (record { w = map pos (a ∷ b ∷ c ∷ e ∷ f ∷ g ∷ h ∷ i ∷ []) })

-- ---- rows

unfoldable pub surgeon : ℕ → Numbers → Check Surgeon
surgeon days earlier p d = do
  id ← new_id earlier p d
  minutes ← under p d keys.MaxSurgeryTime (vector days 100000)
  Ok (record { id = id; max_surgery_time = minutes })

unfoldable pub theatre : ℕ → Numbers → Check Theatre
theatre days earlier p d = do
  id ← new_id earlier p d
  minutes ← under p d keys.Availability (vector days 100000)
  Ok (record { id = id; availability = minutes })

unfoldable pub room : Numbers → Check Room
room earlier p d = do
  id ← new_id earlier p d
  capacity ← under p d keys.Capacity (number 0 1000)
  Ok (record { id = id; capacity = capacity })

-- whether one of these is shift k of the horizon
abbrev pub is_worked : List WorkedShift → ℕ → Bool
is_worked ws k = is_some (load_in ws k)

-- a worked shift, where taken tells which shifts of the horizon are worked already
unfoldable pub worked : ℕ → Numbers → (ℕ → Bool) → Check WorkedShift
worked days types taken p d = do
  o ← object p d
  day ← under p d keys.Day (number 0 (days - 1))
  shift ← under p d keys.Shift (reference types)
  load ← under p d keys.MaxLoad (number 0 100000)
  where_so (not (taken (3 * day + shift))) Duplicate p
      (record { day = record { 0 = day }; shift = shift; max_load = load })

abbrev pub each_worked : ℕ → Numbers → Place → List Data → Checked (List WorkedShift)
each_worked days types p ds = each (λ before. worked days types (is_worked before)) p ds

abbrev pub worked_shifts : ℕ → Numbers → Check (List WorkedShift)
worked_shifts days types p d = list p d >>= each_worked days types p

unfoldable pub nurse : ℕ → Numbers → Numbers → Check Nurse
nurse days types earlier p d = do
  id ← new_id earlier p d
  skill ← under p d keys.SkillLevel (number 0 1000)
  shifts ← under p d keys.WorkingShifts (worked_shifts days types)
  Ok (record { id = id; skill_level = skill; working_shifts = shifts })

unfoldable pub occupant : ℕ → Numbers → Numbers → Numbers → Check Occupant
occupant days groups rooms earlier p d = do
  id ← new_id earlier p d
  gender ← under p d keys.Gender text
  age ← under p d keys.AgeGroup (reference groups)
  stay ← under p d keys.LengthOfStay (number 1 100)
  work ← under p d keys.WorkloadProduced (vector (3 * min stay days) 100000)
  skill ← under p d keys.SkillLevelRequired (vector (3 * min stay days) 1000)
  at ← under p d keys.RoomId (reference rooms)
  Ok (record {
    id = id;
    gender = gender;
    age_group = age;
    length_of_stay = stay;
    workload_produced = work;
    skill_level_required = skill;
    room_id = record { 0 = at };
  })

-- the due day of a mandatory patient
abbrev pub due_day : Bool → Place → Data → Checked (Option ℕ)
due_day mandatory p d =
    if mandatory then (under p d keys.SurgeryDueDay (number 0 1000) >>= λ n. Ok (Some n)) else Ok None

abbrev pub room_number : Numbers → Check RoomNo
room_number rooms p d = reference rooms p d >>= λ n. Ok (record { 0 = n })

abbrev pub room_numbers : Numbers → Check (List RoomNo)
room_numbers rooms p d = list_of 0 1024 p d >>= each (λ _. room_number rooms) p

unfoldable pub patient : ℕ → Numbers → Numbers → Numbers → Numbers → Check Patient
patient days groups surgeons rooms earlier p d = do
  id ← new_id earlier p d
  mandatory ← under p d keys.Mandatory truth
  gender ← under p d keys.Gender text
  age ← under p d keys.AgeGroup (reference groups)
  stay ← under p d keys.LengthOfStay (number 1 100)
  release ← under p d keys.SurgeryReleaseDay (number 0 1000)
  due ← due_day mandatory p d
  duration ← under p d keys.SurgeryDuration (number 0 100000)
  surgeon ← under p d keys.SurgeonId (reference surgeons)
  closed ← under p d keys.IncompatibleRoomIds (room_numbers rooms)
  work ← under p d keys.WorkloadProduced (vector (3 * min stay days) 100000)
  skill ← under p d keys.SkillLevelRequired (vector (3 * min stay days) 1000)
  Ok (record {
    id = id;
    mandatory = mandatory;
    gender = gender;
    age_group = age;
    length_of_stay = stay;
    surgery_release_day = release;
    surgery_due_day = due;
    surgery_duration = duration;
    surgeon_id = record { 0 = surgeon };
    incompatible_room_ids = closed;
    workload_produced = work;
    skill_level_required = skill;
  })

-- ---- lists

abbrev pub names_of_rooms : List Room → List (List ℕ)
names_of_rooms rooms = map (λ (r : Room). r.id) rooms

abbrev pub names_of_surgeons : List Surgeon → List (List ℕ)
names_of_surgeons surgeons = map (λ (s : Surgeon). s.id) surgeons

abbrev pub names : ℕ → ℕ → Check (List (List ℕ))
names low high = named low high (λ s. s) new_name

abbrev pub surgeons : ℕ → Check (List Surgeon)
surgeons days = named 0 128 (λ (s : Surgeon). s.id) (surgeon days)

abbrev pub theatres : ℕ → Check (List Theatre)
theatres days = named 0 64 (λ (t : Theatre). t.id) (theatre days)

abbrev pub rooms : Check (List Room)
rooms = named 1 128 (λ (r : Room). r.id) room

abbrev pub nurses : ℕ → List (List ℕ) → Check (List Nurse)
nurses days types = named 0 512 (λ (n : Nurse). n.id) (nurse days (number_in types))

abbrev pub occupants : ℕ → List (List ℕ) → List Room → Check (List Occupant)
occupants days groups rs = named 0 512 (λ (o : Occupant). o.id)
    (occupant days (number_in groups) (number_in (names_of_rooms rs)))

abbrev pub patients : ℕ → List (List ℕ) → List Surgeon → List Room → Check (List Patient)
patients days groups ss rs = named 0 2048 (λ (p : Patient). p.id)
    (patient days (number_in groups) (number_in (names_of_surgeons ss)) (number_in (names_of_rooms rs)))

-- ---- the whole

-- the data of these parts
abbrev pub draft_with : ℕ → ℕ → List (List ℕ) → List (List ℕ) → Weights → List Surgeon → List Theatre → List Room
    → List Nurse → List Occupant
    → List Patient → Draft
draft_with days levels types groups ws ss ts rs ns os ps = record {
  days = days;
  skill_levels = levels;
  shift_types = types;
  age_groups = groups;
  weights = ws;
  surgeons = ss;
  operating_theaters = ts;
  rooms = rs;
  nurses = ns;
  occupants = os;
  patients = ps;
}

unfoldable pub draft : Check Draft
draft p d = do
  o ← object p d
  days ← under p d keys.Days (number 1 56)
  levels ← under p d keys.SkillLevels (number 1 1000)
  types ← under p d keys.ShiftTypes (names 3 3)
  groups ← under p d keys.AgeGroups (names 0 64)
  ws ← under p d keys.Weights weights
  ss ← under p d keys.Surgeons (surgeons days)
  ts ← under p d keys.OperatingTheaters (theatres days)
  rs ← under p d keys.Rooms rooms
  ns ← under p d keys.Nurses (nurses days types)
  os ← under p d keys.Occupants (occupants days groups rs)
  ps ← under p d keys.Patients (patients days groups ss rs)
  Ok (draft_with days levels types groups ws ss ts rs ns os ps)

-- the data of an instance file, or its first refusal
abbrev pub instance : List ℕ → Checked Draft
instance bytes = document draft bytes
