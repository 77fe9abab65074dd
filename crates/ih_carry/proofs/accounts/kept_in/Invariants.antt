use Rattle.std.proofs.Common.{◌≡◌, ◌≤◌}
use Rattle.std.specs.Prelude.{is_some}
use Rattle.ih_plan.specs.Sums.{count_below}
use Rattle.ih_carry.specs.Handovers.{handover_of, kept_nurse}
use Rattle.ih_carry.proofs.accounts.kept_in.Given as goal

abbrev pub invariant-loop-k : goal.invariant-loop-k
invariant-loop-k l = (l.count ≡ count_below l.k (λ k. is_some (kept_nurse (handover_of l.handover) l.room.0 k))) × (l.count ≤ l.k)
