-- The timetable of a solution file in the competition's form, or the file's first refusal.
use Rattle.std.specs.Prelude.{ℕ, ◌+◌, ◌-◌, ◌*◌, ◌/◌, ◌%◌, ◌==◌, ◌&&◌, Bool, not, List, [], codes, map, find, Option, Some, None, option_and_then, option_map, is_some, Ok}
use Rattle.std.specs.List.{list_any}
use Rattle.std.specs.Option.{option_map_or}
use Rattle.std.specs.Str.{bytes_eq}
use Rattle.serde_json.specs.Data.{Data}
use Rattle.serde_json.specs.Find.{as_str}
use Rattle.ih_tables.specs.declared.drafts.Draft.{Draft}
use Rattle.ih_tables.specs.declared.drafts.Patient.{Patient}
use Rattle.ih_tables.specs.declared.drafts.Nurse.{Nurse}
use Rattle.ih_tables.specs.declared.drafts.Room.{Room}
use Rattle.ih_tables.specs.declared.drafts.Theatre.{Theatre}
use Rattle.ih_tables.specs.declared.ids.RoomNo.{RoomNo}
use Rattle.ih_tables.specs.declared.ids.NurseNo.{NurseNo}
use Rattle.ih_tables.specs.declared.refusals.Place.{Place}
use Rattle.ih_tables.specs.declared.refusals.Key.TheVariants as keys
use Rattle.ih_tables.specs.declared.refusals.Fault.TheVariants.{Kind, Duplicate, TwoNurses}
use Rattle.ih_tables.specs.Lookups.{number_in}
use Rattle.ih_tables.specs.Sizes.{patient_count, room_count, shift_count}
use Rattle.ih_plan.specs.declared.moves.Placement.{Placement}
use Rattle.ih_plan.specs.Timetable.{Timetable, choice_of}
use Rattle.ih_tables.specs.Listed.{listed}
use Rattle.ih_format.specs.Checks.{Checked, Check, ◌>>=◌, where_so, number, object, list, reference, under, each}
use Rattle.ih_format.specs.Documents.{document}
use Rattle.ih_format.specs.Flags.{is_among}
use Rattle.ih_solution.specs.declared.reader.rows.ListedStay.{ListedStay}
use Rattle.ih_solution.specs.declared.reader.rows.Assignment.{Assignment}
use Rattle.ih_solution.specs.declared.reader.rows.ListedNurse.{ListedNurse}

-- ---- what the rows give

-- the stay of patient p: a patient who isn't listed isn't admitted
abbrev pub stay_in : List ListedStay → ℕ → Option Placement
stay_in rows p = option_and_then (λ (row : ListedStay). row.stay) (find (λ (row : ListedStay). row.patient.0 == p) rows)

-- one of the assignments has room r in shift k
abbrev pub have : List Assignment → ℕ → ℕ → Bool
have given r k = list_any (λ (a : Assignment). (a.shift.0 == k) && list_any (λ (x : RoomNo). x.0 == r) a.rooms) given

-- the nurse of room r in shift k: the one whose assignments have it
abbrev pub nurse_in : List ListedNurse → ℕ → ℕ → Option NurseNo
nurse_in rows r k =
    option_map (λ (row : ListedNurse). row.nurse) (find (λ (row : ListedNurse). have row.assignments r k) rows)

unfoldable pub stays_of : Draft → List ListedStay → List (Option Placement)
stays_of I rows = listed (patient_count I) (stay_in rows)

unfoldable pub cares_of : Draft → List ListedNurse → List (Option NurseNo)
cares_of I rows = listed (shift_count I * room_count I) (λ i. nurse_in rows (i / shift_count I) (i % shift_count I))

-- the timetable of the listed patients and nurses
abbrev pub timetable_of : Draft → List ListedStay → List ListedNurse → Timetable
timetable_of I stays nurses = record { stays = stays_of I stays; cares = cares_of I nurses; shifts = shift_count I }

-- ---- references

abbrev pub patient_named : Draft → Check ℕ
patient_named I = reference (number_in (map (λ (a : Patient). a.id) I.patients))

abbrev pub nurse_named : Draft → Check ℕ
nurse_named I = reference (number_in (map (λ (a : Nurse). a.id) I.nurses))

abbrev pub room_named : Draft → Check ℕ
room_named I = reference (number_in (map (λ (a : Room). a.id) I.rooms))

abbrev pub theatre_named : Draft → Check ℕ
theatre_named I = reference (number_in (map (λ (a : Theatre). a.id) I.operating_theaters))

abbrev pub shift_type_named : Draft → Check ℕ
shift_type_named I = reference (number_in I.shift_types)

-- ---- patients

-- no day, which is the text `none`
abbrev pub no_day : Place → List ℕ → Checked (Option ℕ)
no_day p s = where_so (bytes_eq s (codes "none")) Kind p None

-- the day of admission: the text `none`, or a day of the horizon
abbrev pub admission_day : Draft → Check (Option ℕ)
admission_day I p d = option_map_or (no_day p) (as_str d) (number 0 (I.days - 1) p d >>= λ n. Ok (Some n))

-- the placement on a day, and none where there is no day: the other keys are then ignored
abbrev pub placement_on : Draft → Option ℕ → Check (Option Placement)
placement_on I None p d = Ok None
placement_on I (Some day) p d =
    under p d keys.Room (room_named I) >>= λ r.
    under p d keys.OperatingTheater (theatre_named I) >>= λ t.
    Ok (Some (record { day = record { 0 = day }; room = record { 0 = r }; theatre = record { 0 = t } }))

-- a patient or a nurse of this name, whom no earlier item has
abbrev pub new_one : Check ℕ → (ℕ → Bool) → Check ℕ
new_one named earlier p d = named p d >>= λ n. where_so (not (earlier n)) Duplicate p n

unfoldable pub patient_row : Draft → (ℕ → Bool) → Check ListedStay
patient_row I earlier p d = do
  o ← object p d
  n ← under p d keys.Id (new_one (patient_named I) earlier)
  day ← under p d keys.AdmissionDay (admission_day I)
  stay ← placement_on I day p d
  Ok (record { patient = record { 0 = n }; stay = stay })

abbrev pub patient_rows : Draft → Place → List Data → Checked (List ListedStay)
patient_rows I p ds = each (λ before. patient_row I (is_among (λ (row : ListedStay). row.patient.0) before)) p ds

abbrev pub patients : Draft → Check (List ListedStay)
patients I p d = list p d >>= patient_rows I p

-- ---- nurses

-- whether room r has a nurse in shift k
abbrev pub has_nurse : Timetable → ℕ → ℕ → Bool
has_nurse P r k = is_some (choice_of P r k)

-- a room that no earlier nurse has in the shift
abbrev pub free_room : Draft → (ℕ → ℕ → Bool) → ℕ → Check RoomNo
free_room I taken k p d = room_named I p d >>= λ r. where_so (not (taken r k)) TwoNurses p (record { 0 = r })

abbrev pub free_rooms : Draft → (ℕ → ℕ → Bool) → ℕ → Check (List RoomNo)
free_rooms I taken k p d = list p d >>= each (λ _. free_room I taken k) p

unfoldable pub assignment : Draft → (ℕ → ℕ → Bool) → Check Assignment
assignment I taken p d = do
  o ← object p d
  day ← under p d keys.Day (number 0 (I.days - 1))
  type ← under p d keys.Shift (shift_type_named I)
  rooms ← under p d keys.Rooms (free_rooms I taken (3 * day + type))
  Ok (record { shift = record { 0 = 3 * day + type }; rooms = rooms })

abbrev pub assignments : Draft → (ℕ → ℕ → Bool) → Check (List Assignment)
assignments I taken p d = list p d >>= each (λ _. assignment I taken) p

unfoldable pub nurse_row : Draft → (ℕ → Bool) → (ℕ → ℕ → Bool) → Check ListedNurse
nurse_row I earlier taken p d = do
  o ← object p d
  n ← under p d keys.Id (new_one (nurse_named I) earlier)
  given ← under p d keys.Assignments (assignments I taken)
  Ok (record { nurse = record { 0 = n }; assignments = given })

abbrev pub nurse_rows : Draft → Place → List Data → Checked (List ListedNurse)
nurse_rows I p ds = each (λ before. nurse_row I
    (is_among (λ (row : ListedNurse). row.nurse.0) before)
    (has_nurse (timetable_of I [] before))) p ds

abbrev pub nurses : Draft → Check (List ListedNurse)
nurses I p d = list p d >>= nurse_rows I p

-- ---- the file

unfoldable pub listed_plan : Draft → Check Timetable
listed_plan I p d = do
  o ← object p d
  stays ← under p d keys.Patients (patients I)
  nurses ← under p d keys.Nurses (nurses I)
  Ok (timetable_of I stays nurses)

-- the timetable of a solution file, or its first refusal
abbrev pub plan_in : Draft → List ℕ → Checked Timetable
plan_in I bytes = document (listed_plan I) bytes
