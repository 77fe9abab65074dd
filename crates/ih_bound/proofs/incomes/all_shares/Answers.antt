use Rattle.std.proofs.Common.{arith, sym}
use Rattle.ih_plan.proofs.SumLemmas.{sum_below-zero, sum_below-more}
use Rattle.ih_bound.specs.Tariffs.{tariff_of}
use Rattle.ih_bound.proofs.incomes.all_shares.Goals as goal

pub loop-p-init : goal.loop-p-init
loop-p-init c = record {
  value = sym (sum_below-zero (λ p. (tariff_of c.args.inst.now.draft c.args.rates.now c.args.prices.now).share p c.args.theatre c.args.day));
  most = omega arith;
}

pub loop-p-preserved : goal.loop-p-preserved
loop-p-preserved c =
    let share = (tariff_of c.args.inst.now.draft c.args.rates.now c.args.prices.now).share in
    record {
      value = omega (arith, sum_below-more c.loop-p.p (λ p. share p c.args.theatre c.args.day), c.share_on-sum.ensures, c.loop-p.invariant.value);
      most = omega (arith, c.share_on-sum.ensures, c.loop-p.invariant.most);
    }
