use Rattle.std.proofs.Common.{◌≡◌, ◌≤◌, ◌*◌}
use Rattle.ih_plan.specs.Sums.{sum_below}
use Rattle.ih_bound.specs.Tariffs.{tariff_of}
use Rattle.ih_bound.proofs.incomes.all_shares.Given as goal

abbrev pub invariant-loop-p : goal.invariant-loop-p
invariant-loop-p l = record {
  value : l.sum ≡ sum_below l.p (λ p. (tariff_of l.inst.draft l.rates l.prices).share p l.theatre l.day);
  most : l.sum ≤ 536870912 * l.p;
}
