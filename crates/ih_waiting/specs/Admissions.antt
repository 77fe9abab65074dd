-- The cheapest admission of a patient whom the plan leaves out, and what it changes.
use Rattle.std.specs.Prelude.{ℕ, ℤ, pos, negsuc, Option, Some, None, option_and_then}
use Rattle.ih_tables.specs.declared.bills.Bill.{Bill}
use Rattle.ih_tables.specs.declared.drafts.Draft.{Draft}
use Rattle.ih_tables.specs.Bills.{at}
use Rattle.ih_plan.specs.declared.limits.TheConstants.{MAX_HARD}
use Rattle.ih_plan.specs.declared.moves.Placement.{Placement}
use Rattle.ih_plan.specs.declared.moves.Write.{Write}
use Rattle.ih_plan.specs.declared.moves.Write.TheVariants.{SetStay, SetCare}
use Rattle.ih_plan.specs.BillOf.{change_of_bill}
use Rattle.ih_plan.specs.Sums.{sum_below}
use Rattle.ih_plan.specs.Timetable.{Timetable}
use Rattle.ih_plan.specs.Writes.{put}
use Rattle.ih_fill.specs.declared.candidates.Candidate.{Candidate}
use Rattle.ih_fill.specs.Candidates.{least_of, stay_writes}
use Rattle.ih_fill.specs.Fill.{write_score}

-- ---- which is the cheapest

-- the score of what a write changes: a broken rule weighs most
abbrev pub admission_score : Draft → Timetable → Write → ℤ
admission_score I P = write_score I MAX_HARD (λ b. b) P

-- where a write of a stay puts the patient
abbrev pub place_in : Write → Option Placement
place_in (SetStay p stay) = stay
place_in (SetCare r k care) = None

-- Where the cheapest admission puts patient p: of all stays that p may get, the first of least score.
unfoldable pub cheapest_admission : Draft → Timetable → ℕ → Option Placement
cheapest_admission I P p =
    option_and_then (λ (c : Candidate). place_in c.write) (least_of (admission_score I P) (stay_writes I p))

-- ---- what it changes

-- the write that admits patient p at a place
abbrev pub admit : ℕ → Placement → Write
admit p place = SetStay (record { 0 = p }) (Some place)

-- what it changes in the bill
unfoldable pub change_by : Draft → Timetable → ℕ → Placement → Bill
change_by I P p place = change_of_bill I P (put (admit p place) P)

-- by how much a number goes up
abbrev pub rise : ℤ → ℕ
rise (pos n) = n
rise (negsuc n) = 0

-- how many units of rules more are broken, where what is mended doesn't count
unfoldable pub broken_more : Bill → ℕ
broken_more change = sum_below 9 (λ k. rise (at change.v k))
