-- What changed since an older timetable: the patients whose day, room or theatre differ, and the shifts in which a room
-- has another nurse, each with what was.
use Rattle.std.specs.Prelude.{ℕ, List, codes, map}
use Rattle.serde_json.specs.Data.{Data, object, no_members, member}
use Rattle.ih_tables.specs.declared.drafts.Draft.{Draft}
use Rattle.ih_tables.specs.Listed.{listed}
use Rattle.ih_tables.specs.Sizes.{patient_count, room_count, shift_count}
use Rattle.ih_plan.specs.BillOf.{bill_of}
use Rattle.ih_plan.specs.Sums.{which_below}
use Rattle.ih_plan.specs.Timetable.{Timetable, stay_of, care_of}
use Rattle.ih_changes.specs.Changes.{has_another, is_changed}
use Rattle.ih_solution.specs.Solution.{number_data, list_data}
use Rattle.ih_page.specs.TimetableData.{bill_data, place_data}
use Rattle.ih_values.specs.Values.{numbered_data, option_data}

-- ---- patients

-- the patients whose stays differ
abbrev pub changed_patients : Draft → Timetable → Timetable → List ℕ
changed_patients I O P = which_below (patient_count I) (is_changed O P)

-- patient p with the stay of the older timetable
abbrev pub was_stay : Timetable → ℕ → Data
was_stay O p = numbered_data p (option_data place_data (stay_of O p))

-- these patients with their stays of the older timetable
abbrev pub patients_data : Draft → Timetable → Timetable → List Data
patients_data I O P = map (was_stay O) (changed_patients I O P)

-- ---- nurses

-- the shifts in which room r has another nurse
abbrev pub changed_shifts : Draft → Timetable → Timetable → ℕ → List ℕ
changed_shifts I O P r = which_below (shift_count I) (has_another O P r)

-- shift k with room r's nurse of the older timetable
abbrev pub was_nurse : Timetable → ℕ → ℕ → Data
was_nurse O r k = numbered_data k (option_data number_data (care_of O r k))

-- the shifts in which room r has another nurse, with the nurse of the older timetable
unfoldable pub room_data : Draft → Timetable → Timetable → ℕ → Data
room_data I O P r = list_data (map (was_nurse O r) (changed_shifts I O P r))

-- for every room, the shifts in which it has another nurse, with the nurse of the older timetable
abbrev pub rooms_data : Draft → Timetable → Timetable → List Data
rooms_data I O P = listed (room_count I) (room_data I O P)

-- ---- both

unfoldable pub changes_data : Draft → Timetable → Timetable → Data
changes_data I P O = object
    (member (codes "bill") (bill_data I.weights (bill_of I O))
    (member (codes "patients") (list_data (patients_data I O P))
    (member (codes "shifts") (list_data (rooms_data I O P)) no_members)))
