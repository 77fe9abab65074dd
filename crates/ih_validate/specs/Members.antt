-- Who is looked at for a room, and who nurses a person.
use Rattle.std.specs.Prelude.{ℕ, List, Option, Some, None, if◌then◌else◌}
use Rattle.ih_tables.specs.declared.drafts.Draft.{Draft}
use Rattle.ih_tables.specs.Sizes.{person_count}
use Rattle.ih_plan.specs.Timetable.{Timetable, care_of}
use Rattle.ih_plan.specs.Persons.{person_of}
use Rattle.ih_plan.specs.Presence.{Admission, admission_of, room_of, covers, day_of}
use Rattle.ih_plan.specs.Costs.{is_number}
use Rattle.ih_plan.specs.Sums.{which_below}

-- the persons whose room is r, on whatever days, rising
abbrev pub residents_of : Draft → Timetable → ℕ → List ℕ
residents_of I P r = which_below (person_count I) (λ x. is_number (room_of I P x) r)

-- the nurse in shift k of a person who stays n days, while the person is there
abbrev pub carer_in : Timetable → Option Admission → ℕ → ℕ → Option ℕ
carer_in P None n k = None
carer_in P (Some a) n k = if covers a.day n (day_of k) then care_of P a.room k else None

-- the nurse of person x in shift k, where x is present then
abbrev pub carer_of : Draft → Timetable → ℕ → ℕ → Option ℕ
carer_of I P k x = carer_in P (admission_of I P x) (person_of I x).length_of_stay k
