use Rattle.std.proofs.Common.{◌≡◌, ◌≤◌, ◌*◌, ◌^◌}
use Rattle.ih_plan.specs.Sums.{sum_below}
use Rattle.ih_bound.specs.Stays.{asked, number_at}
use Rattle.ih_bound.proofs.stays.total.Given as goal

abbrev pub invariant-loop-k : goal.invariant-loop-k
invariant-loop-k l = record {
  value : l.sum ≡ sum_below l.k (number_at l.numbers (asked l.stay.skill.now l.stay.load.now l.stay.first l.stay.last));
  most : l.sum ≤ 2 ^ 50 * l.k;
}
