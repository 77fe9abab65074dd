use Rattle.std.proofs.Common.{◌≡◌, ◌≤◌}
use Rattle.ih_plan.specs.Sums.{count_below}
use Rattle.ih_carry.specs.Account.{is_lost}
use Rattle.ih_carry.specs.Handovers.{handover_of}
use Rattle.ih_carry.proofs.handovers.Handover.lost_in.Given as goal

abbrev pub invariant-loop-k : goal.invariant-loop-k
invariant-loop-k l = (l.count ≡ count_below l.k (is_lost (handover_of l.self) l.nurse.0 l.loss l.room.0)) × (l.count ≤ l.k)
