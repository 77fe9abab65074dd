use Rattle.std.proofs.Common.{◌≡◌, ◌≤◌}
use Rattle.ih_plan.specs.Sums.{count_below}
use Rattle.ih_changes.specs.Changes.{has_new_nurse}
use Rattle.ih_changes.proofs.counts.changed_cares_in.Given as goal

abbrev pub invariant-loop-k : goal.invariant-loop-k
invariant-loop-k l = (l.count ≡ count_below l.k (has_new_nurse l.inst.draft l.older l.plan l.room.0)) × (l.count ≤ l.k)
