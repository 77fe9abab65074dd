-- What breaks a rule or costs, and where: for each number of the bill the cells that have a part in it, each with its
-- amount.
use Rattle.std.specs.Prelude.{ℕ, ◌<◌, ℤ, Bool, true, false, ◌==◌, not, List, [], ◌∷◌, codes, map, slice_index}
use Rattle.serde_json.specs.Data.{Data, object, no_members, member}
use Rattle.ih_tables.specs.declared.bills.Bill.{Bill}
use Rattle.ih_tables.specs.declared.cells.Cell.{Cell}
use Rattle.ih_tables.specs.declared.cells.Cell.TheVariants.{Stay, RoomDay, TheatreDay, SurgeonDay, RoomShift, NurseShift, Care}
use Rattle.ih_tables.specs.declared.drafts.Draft.{Draft}
use Rattle.ih_tables.specs.Bills.{at}
use Rattle.ih_tables.specs.Listed.{listed}
use Rattle.ih_plan.specs.BillOf.{Counts}
use Rattle.ih_plan.specs.Cells.{cell_at, cell_count, part_at}
use Rattle.ih_plan.specs.Sums.{which_below}
use Rattle.ih_plan.specs.Timetable.{Timetable}
use Rattle.ih_solution.specs.Solution.{list_data}
use Rattle.ih_page.specs.declared.findings.Line.{Line}
use Rattle.ih_page.specs.declared.findings.Line.TheVariants.{Rule, Cost}
use Rattle.ih_page.specs.declared.findings.Spot.{Spot}
use Rattle.ih_values.specs.Values.{numbers_data}

-- it is one of the nine rules or of the eight costs
abbrev pub IsLine : Line → Type 0
IsLine (Rule i) = i < 9
IsLine (Cost i) = i < 8

-- rule i, or cost i
abbrev pub line_of : (is_rule : Bool) → ℕ → Line
line_of true i = Rule i
line_of false i = Cost i

-- its number of a bill
abbrev pub number_in : Bill → Line → ℤ
number_in b (Rule i) = at b.v i
number_in b (Cost i) = at b.s i

-- its number of a cell's part
abbrev pub count_in : Counts → Line → ℕ
count_in c (Rule i) = slice_index c.v i
count_in c (Cost i) = slice_index c.s i

-- a cell as its kind, from 0 on, what it is of and the day or the shift; 0 where it has none
abbrev pub spot_of : Cell → Spot
spot_of (Stay p) = record { kind = 0; row = p.0; column = 0 }
spot_of (RoomDay r d) = record { kind = 1; row = r.0; column = d.0 }
spot_of (TheatreDay t d) = record { kind = 2; row = t.0; column = d.0 }
spot_of (SurgeonDay s d) = record { kind = 3; row = s.0; column = d.0 }
spot_of (RoomShift r k) = record { kind = 4; row = r.0; column = k.0 }
spot_of (NurseShift n k) = record { kind = 5; row = n.0; column = k.0 }
spot_of (Care x) = record { kind = 6; row = x.0; column = 0 }

-- how much of a number of the bill cell n has
abbrev pub amount_at : Draft → Timetable → Line → ℕ → ℕ
amount_at I P l n = count_in (part_at I P (cell_at I n)) l

-- it has any
abbrev pub is_found : Draft → Timetable → Line → ℕ → Bool
is_found I P l n = not (amount_at I P l n == 0)

-- the cells that have any, rising
abbrev pub findings_of : Draft → Timetable → Line → List ℕ
findings_of I P l = which_below (cell_count I) (is_found I P l)

-- an amount and where it is
abbrev pub finding_data : ℕ → Spot → Data
finding_data amount s = numbers_data (amount ∷ s.kind ∷ s.row ∷ s.column ∷ [])

abbrev pub finding_at : Draft → Timetable → Line → ℕ → Data
finding_at I P l n = finding_data (amount_at I P l n) (spot_of (cell_at I n))

-- the findings of a number of the bill
unfoldable pub line_data : Draft → Timetable → Line → Data
line_data I P l = list_data (map (finding_at I P l) (findings_of I P l))

-- those of the rules, or of the costs, below number n
abbrev pub lines_data : Draft → Timetable → (are_rules : Bool) → ℕ → List Data
lines_data I P are_rules n = listed n (λ i. line_data I P (line_of are_rules i))

-- those of each number of the bill
unfoldable pub findings_data : Draft → Timetable → Data
findings_data I P = object
    (member (codes "costs") (list_data (lines_data I P false 8))
    (member (codes "rules") (list_data (lines_data I P true 9)) no_members))
