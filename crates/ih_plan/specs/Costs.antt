-- What stays, room days, theatres, surgeons, rooms and nurses give to the bill: the pieces of its seventeen numbers.
use Rattle.std.specs.Prelude.{ℕ, ◌-◌, Bool, true, false, not, ◌==◌, ◌&&◌, ◌||◌, nat_lt, List, [], ◌∷◌, Option, Some, None, if◌then◌else◌, is_none, slice_get, slice_index, option_map, sum_by, map}
use Rattle.std.specs.Option.{option_map_or}
use Rattle.std.specs.List.{list_any}
use Rattle.std.specs.Str.{bytes_eq}
use Rattle.ih_tables.specs.declared.drafts.Draft.{Draft}
use Rattle.ih_tables.specs.declared.drafts.Patient.{Patient}
use Rattle.ih_tables.specs.declared.drafts.Room.{Room}
use Rattle.ih_tables.specs.declared.drafts.Nurse.{Nurse}
use Rattle.ih_tables.specs.declared.drafts.Surgeon.{Surgeon}
use Rattle.ih_tables.specs.declared.drafts.Theatre.{Theatre}
use Rattle.ih_tables.specs.declared.ids.RoomNo.{RoomNo}
use Rattle.ih_tables.specs.Sizes.{patient_count, room_count, theatre_count, nurse_count, shift_count}
use Rattle.ih_tables.specs.Works.{max_load}
use Rattle.ih_plan.specs.declared.moves.Placement.{Placement}
use Rattle.ih_plan.specs.Timetable.{Timetable, stay_of, care_of}
use Rattle.ih_plan.specs.Persons.{person_of}
use Rattle.ih_plan.specs.Presence.{day_of, present, workload_of}
use Rattle.ih_plan.specs.Sums.{sum_below, count_below, which_below, greatest, least}

-- ---- what a patient's stay costs by itself: 1 or 0, but for the delay

-- the room is one of those that are incompatible with the patient
abbrev pub in_bad_room : Patient → Option Placement → Bool
in_bad_room p None = false
in_bad_room p (Some at) = list_any (λ (r : RoomNo). r.0 == at.room.0) p.incompatible_room_ids

-- the day is past the due day, where there is one
abbrev pub after_due : Option ℕ → ℕ → Bool
after_due None d = false
after_due (Some due) d = nat_lt due d

-- admitted before the release day, or, where mandatory, after the due day
abbrev pub outside_window : Patient → Option Placement → Bool
outside_window p None = false
outside_window p (Some at) =
    nat_lt at.day.0 p.surgery_release_day || (p.mandatory && after_due p.surgery_due_day at.day.0)

-- days from release to admission
abbrev pub delay : Patient → Option Placement → ℕ
delay p None = 0
delay p (Some at) = at.day.0 - p.surgery_release_day

-- a number of patient p, and 0 where there is none
abbrev pub of_patient : Draft → ℕ → (Patient → ℕ) → ℕ
of_patient I p f = option_map_or f (slice_get I.patients p) 0

-- the sum over all patients and their stays
abbrev pub over_patients : Draft → Timetable → (Patient → Option Placement → ℕ) → ℕ
over_patients I P f = sum_below (patient_count I) (λ p. of_patient I p (λ a. f a (stay_of P p)))

-- ---- what the persons in a room on a day cost

-- two of the persons have different genders
abbrev pub genders_differ : Draft → List ℕ → Bool
genders_differ I [] = false
genders_differ I (x ∷ xs) = list_any (λ y. not (bytes_eq (person_of I x).gender (person_of I y).gender)) xs

-- how many persons room r is for
abbrev pub capacity_of : Draft → ℕ → ℕ
capacity_of I r = option_map_or (λ (a : Room). a.capacity) (slice_get I.rooms r) 0

-- the age groups of persons
abbrev pub ages : Draft → List ℕ → List ℕ
ages I xs = map (λ x. (person_of I x).age_group) xs

-- oldest minus youngest of their age groups
abbrev pub age_spread : Draft → List ℕ → ℕ
age_spread I xs = greatest (ages I xs) - least (ages I xs)

-- the sum over all rooms and days of what the persons present give
abbrev pub over_room_days : Draft → Timetable → (ℕ → List ℕ → ℕ) → ℕ
over_room_days I P f = sum_below (room_count I) (λ r. sum_below I.days (λ d. f r (present I P r d)))

-- ---- theatres and surgeons

-- a patient with this stay has surgery in theatre t on day d
abbrev pub operated_in : ℕ → ℕ → Option Placement → Bool
operated_in t d None = false
operated_in t d (Some at) = (at.theatre.0 == t) && (at.day.0 == d)

-- a patient with this stay is admitted on day d
abbrev pub admitted_on : ℕ → Option Placement → Bool
admitted_on d None = false
admitted_on d (Some at) = at.day.0 == d

-- the surgeon of patient p
abbrev pub surgeon_of : Draft → ℕ → Option ℕ
surgeon_of I p = option_map (λ (a : Patient). a.surgeon_id.0) (slice_get I.patients p)

-- it is there, and it is n
abbrev pub is_number : Option ℕ → ℕ → Bool
is_number None n = false
is_number (Some m) n = m == n

-- the patients with surgery in theatre t on day d, rising
unfoldable pub operated : Draft → Timetable → ℕ → ℕ → List ℕ
operated I P t d = which_below (patient_count I) (λ p. operated_in t d (stay_of P p))

-- the patients of surgeon s on day d, rising
unfoldable pub operated_by : Draft → Timetable → ℕ → ℕ → List ℕ
operated_by I P s d = which_below (patient_count I) (λ p. is_number (surgeon_of I p) s && admitted_on d (stay_of P p))

-- the minutes of patient p's surgery
abbrev pub duration_of : Draft → ℕ → ℕ
duration_of I p = option_map_or (λ (a : Patient). a.surgery_duration) (slice_get I.patients p) 0

-- the minutes of surgery of patients
abbrev pub minutes : Draft → List ℕ → ℕ
minutes I ps = sum_by (duration_of I) ps

-- the minutes that surgeon s may operate on day d
abbrev pub surgeon_maximum : Draft → ℕ → ℕ → ℕ
surgeon_maximum I s d = option_map_or (λ (a : Surgeon). slice_index a.max_surgery_time d) (slice_get I.surgeons s) 0

-- the minutes that theatre t is available on day d
abbrev pub theatre_availability : Draft → ℕ → ℕ → ℕ
theatre_availability I t d =
    option_map_or (λ (a : Theatre). slice_index a.availability d) (slice_get I.operating_theaters t) 0

-- the theatre of patient p, where admitted
abbrev pub theatre_of : Timetable → ℕ → Option ℕ
theatre_of P p = option_map (λ (at : Placement). at.theatre.0) (stay_of P p)

-- how many theatres there are among those of the patients
abbrev pub theatres_used : Draft → List (Option ℕ) → ℕ
theatres_used I ts = count_below (theatre_count I) (λ t. list_any (λ o. is_number o t) ts)

-- ---- rooms, shifts and nurses

-- the skill of nurse n
abbrev pub skill_level : Draft → ℕ → ℕ
skill_level I n = option_map_or (λ (a : Nurse). a.skill_level) (slice_get I.nurses n) 0

-- there is a nurse, who doesn't work shift k
abbrev pub not_working : Draft → ℕ → Option ℕ → Bool
not_working I k None = false
not_working I k (Some n) = is_none (max_load I n k)

-- the list has nothing in it
abbrev pub is_empty : {A : Type 0} → List A → Bool
is_empty [] = true
is_empty (x ∷ xs) = false

-- the required skills above the nurse's, summed; none where there is no nurse
abbrev pub skill_missing : Draft → Option ℕ → List ℕ → ℕ
skill_missing I None skills = 0
skill_missing I (Some n) skills = sum_by (λ s. s - skill_level I n) skills

-- the sum over all rooms and shifts of what the nurse and the persons present give
abbrev pub over_room_shifts : Draft → Timetable → (ℕ → Option ℕ → List ℕ → ℕ) → ℕ
over_room_shifts I P f =
    sum_below (room_count I) (λ r. sum_below (shift_count I) (λ k. f k (care_of P r k) (present I P r (day_of k))))

-- the workload of nurse n's rooms in shift k
unfoldable pub load_of : Draft → Timetable → ℕ → ℕ → ℕ
load_of I P n k =
    sum_below (room_count I) (λ r.
    if is_number (care_of P r k) n then sum_by (workload_of I P k) (present I P r (day_of k)) else 0)

-- the load above the maximum, where the shift is worked
abbrev pub overload : Option ℕ → ℕ → ℕ
overload None load = 0
overload (Some most) load = load - most

-- the nurse in shift k of a person in a room
abbrev pub nurse_for : Timetable → Option ℕ → ℕ → Option ℕ
nurse_for P None k = None
nurse_for P (Some r) k = care_of P r k

-- how many nurses there are among these
abbrev pub distinct_nurses : Draft → List (Option ℕ) → ℕ
distinct_nurses I ns = count_below (nurse_count I) (λ n. list_any (λ o. is_number o n) ns)
