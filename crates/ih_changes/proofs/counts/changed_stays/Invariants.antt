use Rattle.std.proofs.Common.{◌≡◌, ◌≤◌}
use Rattle.ih_plan.specs.Sums.{count_below}
use Rattle.ih_changes.specs.Changes.{is_changed}
use Rattle.ih_changes.proofs.counts.changed_stays.Given as goal

abbrev pub invariant-loop-p : goal.invariant-loop-p
invariant-loop-p l = (l.count ≡ count_below l.p (is_changed l.older l.plan)) × (l.count ≤ l.p)
