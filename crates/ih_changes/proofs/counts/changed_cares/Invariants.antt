use Rattle.std.proofs.Common.{◌≡◌, ◌*◌, ◌≤◌}
use Rattle.ih_tables.specs.Sizes.{shift_count}
use Rattle.ih_plan.specs.Sums.{count_below, sum_below}
use Rattle.ih_changes.specs.Changes.{has_new_nurse}
use Rattle.ih_changes.proofs.counts.changed_cares.Given as goal

abbrev pub invariant-loop-r : goal.invariant-loop-r
invariant-loop-r l =
    (l.count ≡ sum_below l.r (λ r. count_below (shift_count l.inst.draft) (has_new_nurse l.inst.draft l.older l.plan r)))
    × (l.count ≤ 168 * l.r)
