use Rattle.std.proofs.Common.{ℕ, ◌≤◌, ◌<◌, length}
use Rattle.std.specs.Prelude.{slice_index_or}
use Rattle.ih_plan.specs.Sums.{sum_below}
use Rattle.ih_bound.specs.declared.dealing.BoundWorker.{BoundWorker}
use Rattle.ih_bound.proofs.dealing.sum_of.Given as goal

abbrev pub invariant-loop-w : goal.invariant-loop-w
invariant-loop-w l = (f : ℕ → ℕ) → ((k : ℕ) (d : BoundWorker) → k < length l.workers → (slice_index_or l.workers k d).sum ≤ f k) → l.sum ≤ sum_below l.w-index f
