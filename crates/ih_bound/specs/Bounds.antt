-- What is said of all feasible timetables of an instance.
use Rattle.std.specs.Prelude.{◌≡◌, ℕ, ◌+◌, ◌≤◌, ⊤, true, pos, ◌≤ℤ◌}
use Rattle.ih_tables.specs.declared.drafts.Draft.{Draft}
use Rattle.ih_tables.specs.Bills.{feasible, cost}
use Rattle.ih_plan.specs.Timetable.{Timetable, IsPlanOf}
use Rattle.ih_plan.specs.BillOf.{bill_of}
use Rattle.ih_bound.specs.declared.outcomes.Outcome.{Outcome}
use Rattle.ih_bound.specs.declared.outcomes.Outcome.TheVariants.{Infeasible, AtLeast}

-- It is a timetable of the instance, and no hard rule is broken.
pub record IsFeasible (I : Draft) (P : Timetable) : Type 0 where
  pub plan : IsPlanOf I P
  pub rules : feasible (bill_of I P) ≡ true

-- no timetable of the instance is feasible
abbrev pub NoneIsFeasible : Draft → Type 0
NoneIsFeasible I = (P : Timetable) → IsFeasible I P → ⊥

-- the outcome holds of a feasible timetable: there is none, or it costs at least so much
abbrev pub Bounds : Draft → Timetable → Outcome → Type 0
Bounds I P Infeasible = ⊥
Bounds I P (AtLeast b) = pos b.value ≤ℤ cost I.weights (bill_of I P)

-- the parts of a bound come to its value
abbrev pub AddUp : Outcome → Type 0
AddUp Infeasible = ⊤
AddUp (AtLeast b) = b.parts.delay + b.parts.left_out + b.parts.theatres + b.parts.nurses ≡ b.value

-- it tells of so many rounds at most
abbrev pub IsFoundIn : ℕ → Outcome → Type 0
IsFoundIn rounds Infeasible = ⊤
IsFoundIn rounds (AtLeast b) = b.rounds ≤ rounds

-- the outcome holds of all feasible timetables
abbrev pub HoldsOfAll : Draft → Outcome → Type 0
HoldsOfAll I o = (P : Timetable) → IsFeasible I P → Bounds I P o
