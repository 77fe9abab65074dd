use Rattle.std.proofs.Common.{◌≡◌, ℕ, ◌<◌, ◌-ℤ◌}
use Rattle.ih_tables.specs.Bills.{at}
use Rattle.ih_tables.proofs.bills.sub_each.Given as goal

abbrev pub invariant-loop-i : goal.invariant-loop-i
invariant-loop-i l = (k : ℕ) → k < l.i → at l.out k ≡ at l.left k -ℤ at l.right k
