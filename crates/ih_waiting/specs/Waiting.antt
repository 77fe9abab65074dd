-- Who waits: a line for each patient whom the plan leaves out, with the cheapest admission.
use Rattle.std.specs.Prelude.{ℕ, Bool, true, false, List, ◌++◌, Option, Some, None, flat_map}
use Rattle.ih_tables.specs.declared.bills.Bill.{Bill}
use Rattle.ih_tables.specs.declared.drafts.Draft.{Draft}
use Rattle.ih_tables.specs.Bills.{cost}
use Rattle.ih_plan.specs.declared.moves.Placement.{Placement}
use Rattle.ih_plan.specs.Timetable.{Timetable}
use Rattle.ih_solution.specs.Solution.{patient_id, room_id, theatre_id}
use Rattle.ih_fill.specs.Fill.{waiting}
use Rattle.ih_waiting.specs.Admissions.{broken_more, change_by, cheapest_admission}
use Rattle.ih_waiting.specs.Sentences.{change_text, line_text, no_day_text, place_text}

-- a place, and what an admission there changes
unfoldable pub admission_text : Draft → Placement → Bill → List ℕ
admission_text I place change =
    place_text place.day.0 (room_id I place.room.0) (theatre_id I place.theatre.0)
    ++ change_text (broken_more change) (cost I.weights change)

-- on which day patient p could come, and where to
abbrev pub day_text : Draft → Timetable → ℕ → Option Placement → List ℕ
day_text I P p None = no_day_text
day_text I P p (Some place) = admission_text I place (change_by I P p place)

-- what is said of patient p
unfoldable pub patient_line : Draft → Timetable → Bool → ℕ → List ℕ
patient_line I P mandatory p =
    line_text (patient_id I p) mandatory (day_text I P p (cheapest_admission I P p))

-- what is said of those who wait and are mandatory, or of the others
unfoldable pub lines_of : Draft → Timetable → Bool → List ℕ
lines_of I P mandatory = flat_map (patient_line I P mandatory) (waiting I P mandatory)

-- The mandatory ones come first.
unfoldable pub waiting_text : Draft → Timetable → List ℕ
waiting_text I P = lines_of I P true ++ lines_of I P false
