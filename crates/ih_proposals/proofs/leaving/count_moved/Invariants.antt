use Rattle.std.proofs.Common.{◌≤◌}
use Rattle.ih_proposals.proofs.leaving.count_moved.Given as goal

abbrev pub invariant-loop-i : goal.invariant-loop-i
invariant-loop-i l = l.moved ≤ l.i
