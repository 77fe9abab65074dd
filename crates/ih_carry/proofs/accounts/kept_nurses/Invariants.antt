use Rattle.std.proofs.Common.{◌≡◌, ◌≤◌, ◌*◌}
use Rattle.ih_plan.specs.Sums.{sum_below}
use Rattle.ih_carry.specs.Account.{kept_in}
use Rattle.ih_carry.specs.Handovers.{handover_of}
use Rattle.ih_carry.proofs.accounts.kept_nurses.Given as goal

abbrev pub invariant-loop-r : goal.invariant-loop-r
invariant-loop-r l = (l.count ≡ sum_below l.r (kept_in (handover_of l.handover))) × (l.count ≤ 168 * l.r)
