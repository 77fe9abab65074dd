use Rattle.std.proofs.Common.{arith, ◌∙◌}
use Rattle.ih_plan.proofs.SumLemmas.{sum_below-more}
use Rattle.ih_bound.specs.Tariffs.{tariff_of}
use Rattle.ih_bound.specs.Dealing.{dealt_paid}
use Rattle.ih_bound.proofs.dealing.BoundWorker.sum_dealt.Goals as goal

pub loop-x-preserved : goal.loop-x-preserved
loop-x-preserved c = record {
  floors = c.least_if_dealt-least.ensures.floors ∙ c.loop-x.invariant.floors;
  sum = λ P feasible.
      let f = dealt_paid c.args.inst.now.draft c.args.rates.now (tariff_of c.args.inst.now.draft c.args.rates.now c.args.prices.now) P c.args.workers c.args.worker in
      omega (arith, sum_below-more c.loop-x.x f, c.loop-x.invariant.sum P feasible, c.least_if_dealt-least.ensures.least P feasible, c.saturating_add-sum.ensures);
}
