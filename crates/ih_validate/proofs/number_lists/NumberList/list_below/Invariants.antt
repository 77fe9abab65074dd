use Rattle.std.proofs.Common.{◌≡◌, ℕ, ◌<◌, ◌≤◌, Bool, length}
use Rattle.ih_plan.specs.Sums.{which_below}
use Rattle.ih_validate.proofs.number_lists.NumberList.list_below.Given as goal

abbrev pub invariant-loop-x : goal.invariant-loop-x
invariant-loop-x g l = record {
  listed : (p : ℕ → Bool) → ((i : ℕ) (b : Bool) → i < l.count → goal.F-post g l.keep i b → b ≡ p i) → l.self ≡ which_below l.x p;
  few : length l.self ≤ l.x;
}
