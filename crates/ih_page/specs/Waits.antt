-- Who waits: the patients whom a timetable leaves out, each with the cheapest admission.
use Rattle.std.specs.Prelude.{ℕ, Bool, is_none, List, codes, map}
use Rattle.serde_json.specs.Data.{Data, number, object, no_members, member}
use Rattle.serde_json.specs.Find.{of_integer}
use Rattle.ih_tables.specs.declared.bills.Bill.{Bill}
use Rattle.ih_tables.specs.declared.drafts.Draft.{Draft}
use Rattle.ih_tables.specs.Bills.{cost}
use Rattle.ih_tables.specs.Sizes.{patient_count}
use Rattle.ih_plan.specs.declared.moves.Placement.{Placement}
use Rattle.ih_plan.specs.Sums.{which_below}
use Rattle.ih_plan.specs.Timetable.{Timetable, stay_of}
use Rattle.ih_solution.specs.Solution.{number_data}
use Rattle.ih_waiting.specs.Admissions.{broken_more, change_by, cheapest_admission}
use Rattle.ih_page.specs.TimetableData.{place_data}
use Rattle.ih_values.specs.Values.{numbered_data, option_data}

-- where an admission puts a patient, how many units of rules more are broken, and what is added to the cost
unfoldable pub admission_data : Draft → Placement → Bill → Data
admission_data I place change = object
    (member (codes "broken") (number_data (broken_more change))
    (member (codes "cost") (number (of_integer (cost I.weights change)))
    (member (codes "place") (place_data place) no_members)))

-- the cheapest admission of patient p; null where there is none
abbrev pub could_data : Draft → Timetable → ℕ → Data
could_data I P p = option_data (λ place. admission_data I place (change_by I P p place)) (cheapest_admission I P p)

unfoldable pub wait_data : Draft → Timetable → ℕ → Data
wait_data I P p = numbered_data p (could_data I P p)

-- patient p isn't admitted
abbrev pub is_out : Timetable → ℕ → Bool
is_out P p = is_none (stay_of P p)

-- those who aren't, in number order
abbrev pub waits_data : Draft → Timetable → List Data
waits_data I P = map (wait_data I P) (which_below (patient_count I) (is_out P))
