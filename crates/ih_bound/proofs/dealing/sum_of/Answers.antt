use Rattle.std.proofs.Common.{◌≡◌, ap, arith, length}
use Rattle.ih_plan.proofs.SumLemmas.{sum_below-more}
use Rattle.ih_bound.specs.declared.dealing.BoundWorker.{BoundWorker}
use Rattle.ih_bound.proofs.dealing.sum_of.Goals as goal

pub loop-w-preserved : goal.loop-w-preserved
loop-w-preserved c = λ f all.
    let own = all c.loop-w.w-index c.w-item.result c.loop-w-test.true in
    let same = ap (λ (w : BoundWorker). w.sum) c.w-item.is in
    omega (arith, sum_below-more c.loop-w.w-index f, c.loop-w.invariant f all, own, same, c.saturating_add-sum.ensures)

pub returns : goal.returns
returns c = λ f all.
    let ended = c.loop-w-test.false in
    let end : c.loop-w.w-index ≡ length c.args.workers.now = omega (arith, ended) in
    rw end at (c.loop-w.invariant f all)
