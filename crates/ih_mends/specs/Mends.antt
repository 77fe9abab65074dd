-- The mend of a rule that a plan breaks: the cheapest single change that lowers its number.
use Rattle.std.specs.Prelude.{ℕ, ℤ, pos, int_lt, Bool, List, Option, filter, map}
use Rattle.ih_tables.specs.declared.bills.Bill.{Bill}
use Rattle.ih_tables.specs.declared.drafts.Draft.{Draft}
use Rattle.ih_tables.specs.Bills.{at}
use Rattle.ih_plan.specs.declared.limits.TheConstants.{MAX_HARD}
use Rattle.ih_plan.specs.declared.moves.Write.{Write}
use Rattle.ih_plan.specs.BillOf.{bill_of, change_of_bill}
use Rattle.ih_plan.specs.Timetable.{Timetable}
use Rattle.ih_plan.specs.Writes.{put}
use Rattle.ih_fill.specs.declared.candidates.Candidate.{Candidate}
use Rattle.ih_fill.specs.Candidates.{least_of}
use Rattle.ih_fill.specs.Choices.{all_choices}
use Rattle.ih_replacements.specs.Replacements.{best_write, value_of}

-- how often the rule at place k of the bill is broken
abbrev pub breaches : Draft → Timetable → ℕ → ℤ
breaches I P k = at (bill_of I P).v k

-- what a write changes in the bill
abbrev pub change_by : Draft → Timetable → Write → Bill
change_by I P w = change_of_bill I P (put w P)

-- the best replacement of each choice, in the order of the choices; a broken rule weighs most
abbrev pub best_changes : Draft → Timetable → List Write
best_changes I P = map (best_write I MAX_HARD P) (all_choices I)

-- a write lowers the number of rule k
abbrev pub lowers : Draft → Timetable → ℕ → Write → Bool
lowers I P k w = int_lt (at (change_by I P w).v k) (pos 0)

-- The mend of rule k: of the best replacements that lower its number, the first of least score.
unfoldable pub mend : Draft → Timetable → ℕ → Option Candidate
mend I P k = least_of (value_of I MAX_HARD P) (filter (lowers I P k) (best_changes I P))
