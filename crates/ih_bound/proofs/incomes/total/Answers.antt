use Rattle.std.proofs.Common.{arith}
use Rattle.ih_plan.proofs.SumLemmas.{sum_below-zero, sum_below-more}
use Rattle.ih_bound.proofs.incomes.total.Goals as goal

pub loop-i-init : goal.loop-i-init
loop-i-init g c = λ f h. omega (arith, sum_below-zero f)

pub loop-i-preserved : goal.loop-i-preserved
loop-i-preserved g c = λ f h.
    let more = sum_below-more c.loop-i.i f in
    let before = c.loop-i.invariant f h in
    let here = h c.loop-i.i c.each.result c.loop-i-test.true c.each.ensures in
    omega (arith, more, before, here, c.saturating_add-sum.ensures)
