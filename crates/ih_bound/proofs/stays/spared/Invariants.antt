use Rattle.std.proofs.Common.{◌≤◌, ◌*◌, ◌^◌}
use Rattle.ih_plan.specs.Sums.{sum_below}
use Rattle.ih_bound.specs.Tariffs.{tariff_of}
use Rattle.ih_bound.specs.Stays.{asked, spared_in}
use Rattle.ih_bound.proofs.stays.spared.Given as goal

abbrev pub invariant-loop-k : goal.invariant-loop-k
invariant-loop-k l = record {
  least : sum_below l.k (spared_in l.inst.draft l.rates (tariff_of l.inst.draft l.rates l.prices) (asked l.stay.skill.now l.stay.load.now l.stay.first l.stay.last) l.numbers l.nurse.0) ≤ l.sum;
  most : l.sum ≤ 2 ^ 50 * l.k;
}
