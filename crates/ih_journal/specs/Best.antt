-- The best timetable of a history: the first of the cheapest feasible ones.
use Rattle.std.specs.Prelude.{◌≡◌, ℕ, ◌<◌, ◌≤◌, List, length, Bool, true, false, ◌≤ℤ◌, ◌<ℤ◌, ℤ, int_lt, Option, Some, None, if◌then◌else◌}
use Rattle.ih_tables.specs.Bills.{feasible, cost}
use Rattle.ih_plan.specs.BillOf.{bill_of}
use Rattle.ih_journal.specs.Tried.{Tried}
use Rattle.ih_journal.specs.Base.{Base}
use Rattle.ih_journal.specs.History.{plan_at}

-- the timetable after k entries is feasible
abbrev pub IsFeasibleAt : Base → List Tried → ℕ → Type 0
IsFeasibleAt b H k = feasible (bill_of b.instance (plan_at b H k)) ≡ true

-- what it costs
abbrev pub cost_at : Base → List Tried → ℕ → ℤ
cost_at b H k = cost b.instance.weights (bill_of b.instance (plan_at b H k))

-- place k has a feasible timetable, none of those at other places is cheaper, and each at an earlier place costs more
pub record IsBest (b : Base) (H : List Tried) (k : ℕ) : Type 0 where
  pub place : k ≤ length H
  pub works : IsFeasibleAt b H k
  pub cheapest : (j : ℕ) → j ≤ length H → IsFeasibleAt b H j → cost_at b H k ≤ℤ cost_at b H j
  pub first : (j : ℕ) → j < k → IsFeasibleAt b H j → cost_at b H k <ℤ cost_at b H j

-- no timetable of the history is feasible
abbrev pub HasNone : Base → List Tried → Type 0
HasNone b H = (j : ℕ) → j ≤ length H → feasible (bill_of b.instance (plan_at b H j)) ≡ false

-- the place of the best with its cost, or none
abbrev pub BestIs : Base → List Tried → Option (ℕ × ℤ) → Type 0
BestIs b H None = HasNone b H
BestIs b H (Some best) = IsBest b H best.0 × (best.1 ≡ cost_at b H best.0)

-- the best so far and the timetable at the next place, of which it is known whether it is feasible and what it costs
abbrev pub best_with : Option (ℕ × ℤ) → ℕ → Bool → ℤ → Option (ℕ × ℤ)
best_with best place false cost = best
best_with None place true cost = Some (place, cost)
best_with (Some best) place true cost = if int_lt cost best.1 then Some (place, cost) else Some best
