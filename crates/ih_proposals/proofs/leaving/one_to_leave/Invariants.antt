use Rattle.std.proofs.Common.{◌≤◌}
use Rattle.ih_proposals.proofs.leaving.one_to_leave.Given as goal

abbrev pub invariant-loop-i : goal.invariant-loop-i
invariant-loop-i l = l.staying ≤ l.i
