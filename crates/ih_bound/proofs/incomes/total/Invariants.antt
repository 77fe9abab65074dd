use Rattle.std.proofs.Common.{ℕ, ◌<◌}
use Rattle.ih_plan.specs.Sums.{sum_below}
use Rattle.ih_bound.specs.Tariffs.{AtLeast}
use Rattle.ih_bound.proofs.incomes.total.Given as goal

abbrev pub invariant-loop-i : goal.invariant-loop-i
invariant-loop-i g l = (f : ℕ → ℕ) → ((i x : ℕ) → i < l.count → goal.F-post g l.each i x → AtLeast (f i) x) → AtLeast (sum_below l.i f) l.sum
