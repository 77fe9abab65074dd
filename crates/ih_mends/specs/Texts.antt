-- A line for each rule that the plan breaks, with its mend.
use Rattle.std.specs.Prelude.{ℕ, pos, ◌/◌, int_lt, List, [], ◌++◌, Option, Some, None, if◌then◌else◌}
use Rattle.ih_tables.specs.declared.bills.Bill.{Bill}
use Rattle.ih_tables.specs.declared.drafts.Draft.{Draft}
use Rattle.ih_tables.specs.Bills.{cost}
use Rattle.ih_plan.specs.declared.moves.Write.{Write}
use Rattle.ih_plan.specs.declared.moves.Write.TheVariants.{SetStay, SetCare}
use Rattle.ih_plan.specs.Timetable.{Timetable}
use Rattle.ih_solution.specs.Solution.{nurse_id, patient_id, room_id, shift_type_of, theatre_id}
use Rattle.ih_validate.specs.Report.{lines_below}
use Rattle.ih_fill.specs.declared.candidates.Candidate.{Candidate}
use Rattle.ih_waiting.specs.Admissions.{broken_more}
use Rattle.ih_waiting.specs.Sentences.{change_text}
use Rattle.ih_mends.specs.Mends.{breaches, change_by, mend}
use Rattle.ih_mends.specs.Sentences.{care_text, line_text, no_care_text, none_text, out_text, rule_text, stay_text}

-- a write, by the ids
abbrev pub write_text : Draft → Write → List ℕ
write_text I (SetStay p (Some at)) =
    stay_text (patient_id I p.0) at.day.0 (room_id I at.room.0) (theatre_id I at.theatre.0)
write_text I (SetStay p None) = out_text (patient_id I p.0)
write_text I (SetCare r k (Some n)) =
    care_text (nurse_id I n.0) (room_id I r.0) (k.0 / 3) (shift_type_of I k.0)
write_text I (SetCare r k None) = no_care_text (room_id I r.0) (k.0 / 3) (shift_type_of I k.0)

-- a write, the rules that are broken more by it, if any, and what it adds to the cost
unfoldable pub priced_text : Draft → Write → Bill → List ℕ
priced_text I w change = write_text I w ++ change_text (broken_more change) (cost I.weights change)

-- the mend, if there is one
abbrev pub mend_text : Draft → Timetable → Option Candidate → List ℕ
mend_text I P None = none_text
mend_text I P (Some c) = priced_text I c.write (change_by I P c.write)

-- what is said of rule k
unfoldable pub rule_line : Draft → Timetable → ℕ → List ℕ
rule_line I P k =
    if int_lt (pos 0) (breaches I P k)
    then line_text (rule_text k) (breaches I P k) (mend_text I P (mend I P k))
    else []

-- the nine rules, in the order of the bill
unfoldable pub mends_text : Draft → Timetable → List ℕ
mends_text I P = lines_below 9 (rule_line I P)
