use Rattle.std.proofs.Common.{◌≡◌, ◌≤◌, ◌*◌}
use Rattle.ih_plan.specs.Sums.{sum_below}
use Rattle.ih_carry.specs.Account.{lost_in}
use Rattle.ih_carry.specs.Handovers.{handover_of}
use Rattle.ih_carry.proofs.handovers.Handover.lost.Given as goal

abbrev pub invariant-loop-r : goal.invariant-loop-r
invariant-loop-r l = (l.count ≡ sum_below l.r (lost_in (handover_of l.self) l.nurse.0 l.loss)) × (l.count ≤ 168 * l.r)
