use Rattle.std.proofs.Common.{◌≡◌, ◌≤◌, ◌*◌, ◌^◌}
use Rattle.ih_tables.specs.Bills.{at}
use Rattle.ih_plan.specs.Sums.{sum_below}
use Rattle.ih_waiting.specs.Admissions.{rise}
use Rattle.ih_waiting.proofs.changes.rises.Given as goal

abbrev pub invariant-loop-k : goal.invariant-loop-k
invariant-loop-k l = record {
  sum : l.sum ≡ sum_below l.k (λ k. rise (at l.changes k));
  small : l.sum ≤ l.k * 10 ^ 11;
}
