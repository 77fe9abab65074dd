use Rattle.std.proofs.Common.{arith, sym}
use Rattle.ih_plan.proofs.SumLemmas.{sum_below-zero, sum_below-more}
use Rattle.ih_validate.proofs.summing.sum_below.Goals as goal

pub loop-i-init : goal.loop-i-init
loop-i-init g c = record { sum = λ f h. sym (sum_below-zero f); bound = omega arith }

pub loop-i-preserved : goal.loop-i-preserved
loop-i-preserved g c = record {
  sum =
      λ f h.
      rw (sum_below-more c.loop-i.i f)
      (omega (arith, c.loop-i.invariant.sum f h, h c.loop-i.i c.each-sum.result c.loop-i-test.true c.each-sum.ensures));
  bound = grind (arith, c.loop-i.invariant.bound, c.requires.few c.loop-i.i c.each-sum.result c.loop-i-test.true c.each-sum.ensures);
}
