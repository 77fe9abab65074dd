use Rattle.std.proofs.Common.{◌≡◌, ℕ, ◌<◌, ◌≤◌, ◌*◌}
use Rattle.ih_plan.specs.Sums.{sum_below}
use Rattle.ih_validate.proofs.summing.sum_below.Given as goal

abbrev pub invariant-loop-i : goal.invariant-loop-i
invariant-loop-i g l = record {
  sum : (f : ℕ → ℕ) → ((i x : ℕ) → i < l.count → goal.F-post g l.each i x → x ≡ f i) → l.sum ≡ sum_below l.i f;
  bound : l.sum ≤ l.i * l.most;
}
