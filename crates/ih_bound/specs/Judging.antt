-- A timetable beside a bound: its cost, and how far that may be from the best.
use Rattle.std.specs.Prelude.{◌≡◌, ℕ, ◌≤◌, ◌+◌, ℤ, pos, ◌*ℤ◌, ◌≤ℤ◌, Bool, true, false, Option, Some, None, ⊤, unsigned_abs}
use Rattle.ih_tables.specs.declared.drafts.Draft.{Draft}
use Rattle.ih_tables.specs.Bills.{cost, feasible}
use Rattle.ih_plan.specs.Timetable.{Timetable}
use Rattle.ih_plan.specs.BillOf.{bill_of}
use Rattle.ih_bound.specs.Bounds.{IsFeasible}
use Rattle.ih_bound.specs.Texts.{above}
use Rattle.ih_bound.specs.declared.judging.Judged.{Judged}
use Rattle.ih_bound.specs.declared.outcomes.Outcome.{Outcome}
use Rattle.ih_bound.specs.declared.outcomes.Outcome.TheVariants.{Infeasible, AtLeast}

-- the cost of a timetable
abbrev pub cost_of : Draft → Timetable → ℤ
cost_of I P = cost I.weights (bill_of I P)

-- a timetable's cost, and whether it breaks no hard rule
abbrev pub judged : Draft → Timetable → Judged
judged I P = record { feasible = feasible (bill_of I P); cost = cost_of I P }

-- P costs at most n thousandths more than each feasible timetable, the best one too
abbrev pub IsAbove : Draft → Timetable → ℕ → Type 0
IsAbove I P n = (Q : Timetable) → IsFeasible I Q → (pos 1000 *ℤ cost_of I P) ≤ℤ (pos (1000 + n) *ℤ cost_of I Q)

-- so much is said of a timetable that is feasible, where the best costs something
abbrev pub HasGap : Draft → Timetable → Outcome → Type 0
HasGap I P Infeasible = ⊤
HasGap I P (AtLeast b) =
    feasible (bill_of I P) ≡ true → 1 ≤ b.value → IsAbove I P (above (unsigned_abs (cost_of I P)) b.value)

-- nothing infeasible was found: there may be a feasible timetable, and the one that was judged, if any, is feasible
abbrev pub no_infeasibility : Option Judged → Outcome → Bool
no_infeasibility judged Infeasible = false
no_infeasibility None (AtLeast b) = true
no_infeasibility (Some j) (AtLeast b) = j.feasible
