use Rattle.std.proofs.Common.{◌≡◌, ◌≤◌}
use Rattle.std.specs.Prelude.{is_some}
use Rattle.ih_plan.specs.Sums.{count_below}
use Rattle.ih_carry.specs.Handovers.{handover_of, kept_stay}
use Rattle.ih_carry.proofs.accounts.kept_stays.Given as goal

abbrev pub invariant-loop-p : goal.invariant-loop-p
invariant-loop-p l = (l.count ≡ count_below l.p (λ q. is_some (kept_stay (handover_of l.handover) q))) × (l.count ≤ l.p)
