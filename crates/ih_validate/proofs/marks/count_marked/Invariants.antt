use Rattle.std.proofs.Common.{◌≡◌, ◌≤◌}
use Rattle.ih_plan.specs.Sums.{count_below}
use Rattle.ih_tables.specs.Marks.{is_marked}
use Rattle.ih_validate.proofs.marks.count_marked.Given as goal

abbrev pub invariant-loop-i : goal.invariant-loop-i
invariant-loop-i l = (l.marked ≡ count_below l.i (is_marked l.marks)) × (l.marked ≤ l.i)
