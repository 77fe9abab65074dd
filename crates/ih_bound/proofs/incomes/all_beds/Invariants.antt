use Rattle.std.proofs.Common.{◌≡◌, ◌≤◌, ◌*◌}
use Rattle.ih_plan.specs.Sums.{sum_below}
use Rattle.ih_plan.specs.Costs.{capacity_of}
use Rattle.ih_bound.proofs.incomes.all_beds.Given as goal

abbrev pub invariant-loop-r : goal.invariant-loop-r
invariant-loop-r l = record {
  value : l.sum ≡ sum_below l.r (capacity_of l.inst.draft);
  most : l.sum ≤ 4294967295 * l.r;
}
