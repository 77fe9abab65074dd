use Rattle.std.proofs.Common.{◌≤◌, length}
use Rattle.ih_bound.proofs.scarcity.dearest.Given as goal

abbrev pub invariant-loop-told : goal.invariant-loop-told
invariant-loop-told l = length l.list.items ≤ l.told
