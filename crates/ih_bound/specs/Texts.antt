-- What is said of a bound, and of a timetable beside it.
use Rattle.std.specs.Prelude.{ℕ, ℤ, List, [], ◌++◌, ◌-◌, ◌*◌, ◌/◌, ◌%◌, ◌==◌, if◌then◌else◌, Option, Some, None, codes, decimal, unsigned_abs}
use Rattle.std.specs.Fmt.{signed_decimal}
use Rattle.std.specs.Int.{div_ceil}
use Rattle.ih_bound.specs.declared.outcomes.Outcome.{Outcome}
use Rattle.ih_bound.specs.declared.outcomes.Outcome.TheVariants.{Infeasible, AtLeast}
use Rattle.ih_bound.specs.declared.outcomes.Parts.{Parts}
use Rattle.ih_bound.specs.declared.judging.Judged.{Judged}

-- where a bound comes from
abbrev pub parts_text : Parts → List ℕ
parts_text p =
    codes "delay " ++ (decimal p.delay ++ (codes ", left out " ++ (decimal p.left_out
    ++ (codes ", theatres " ++ (decimal p.theatres ++ (codes ", nurses " ++ decimal p.nurses))))))

-- in one line, what no feasible timetable costs less than, or that there is none
abbrev pub limit_line : Outcome → List ℕ
limit_line Infeasible = codes "no feasible timetable exists\n"
limit_line (AtLeast b) = codes "no feasible timetable costs less than " ++ (decimal b.value ++ codes "\n")

-- where the bound comes from, and in how many rounds it was found
abbrev pub origin_line : Outcome → List ℕ
origin_line Infeasible = []
origin_line (AtLeast b) = parts_text b.parts ++ (codes "; rounds " ++ (decimal b.rounds ++ codes "\n"))

-- by how many thousandths so much is above the least that it can be, rounded up
abbrev pub above : ℕ → ℕ → ℕ
above cost least = div_ceil ((cost - least) * 1000) least

-- thousandths as hundredths with one place
abbrev pub percent_text : ℕ → List ℕ
percent_text n = decimal (n / 10) ++ (codes "." ++ (decimal (n % 10) ++ codes " %"))

-- so many thousandths above the best
abbrev pub share_text : ℕ → List ℕ
share_text n = codes ", at most " ++ (percent_text n ++ codes " above the best")

-- how far a feasible timetable of this cost may be from the best; where the best may cost nothing, no share is said
abbrev pub gap_text : ℤ → ℕ → List ℕ
gap_text cost least = if least == 0 then [] else share_text (above (unsigned_abs cost) least)

-- what is said of a timetable
abbrev pub plan_text : Judged → Outcome → List ℕ
plan_text j (AtLeast b) =
    if j.feasible
    then (codes "this one costs " ++ (signed_decimal j.cost ++ (gap_text j.cost b.value ++ codes "\n")))
    else codes "this one breaks hard rules\n"
plan_text j Infeasible = codes "this one breaks hard rules\n"

-- what is said of the timetable that was judged: nothing where none was
abbrev pub judged_text : Option Judged → Outcome → List ℕ
judged_text None outcome = []
judged_text (Some j) outcome = plan_text j outcome

-- what is said of all feasible timetables, and of the one that was judged, if any
unfoldable pub bound_text : Option Judged → Outcome → List ℕ
bound_text judged outcome = limit_line outcome ++ (origin_line outcome ++ judged_text judged outcome)
