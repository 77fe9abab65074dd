use Rattle.std.proofs.Common.{arith, sym}
use Rattle.ih_plan.proofs.SumLemmas.{sum_below-zero, sum_below-more}
use Rattle.ih_validate.proofs.ListLemmas.{are-operated}
use Rattle.ih_validate.proofs.surgery.sum_days.Goals as goal

pub each-sum-requires : goal.each-sum-requires
each-sum-requires g c =
    c.requires.callable _ _
    (are-operated c.args.inst.now.draft c.args.plan.now c.args.resource c.loop-d.d _ _ c.list_today.ensures c.as_slice-in-loop-d.ensures.value c.as_slice-in-loop-d.ensures.few)

pub loop-d-init : goal.loop-d-init
loop-d-init g c = record { sum = λ f h. sym (sum_below-zero f); bound = omega arith }

pub loop-d-preserved : goal.loop-d-preserved
loop-d-preserved g c =
    let d = c.loop-d.d in
    let are = are-operated c.args.inst.now.draft c.args.plan.now c.args.resource d _ _ c.list_today.ensures c.as_slice-in-loop-d.ensures.value c.as_slice-in-loop-d.ensures.few in
    record {
      sum =
          λ f h.
          rw (sum_below-more d f) (omega (arith, c.loop-d.invariant.sum f h, h d _ c.each-sum.result are c.each-sum.ensures));
      bound = grind (arith, c.loop-d.invariant.bound, c.requires.few d _ c.each-sum.result c.each-sum.ensures);
    }
