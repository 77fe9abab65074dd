use Rattle.std.proofs.Common.{length, None}
use Rattle.std.specs.Prelude.{slice_index_or}
use Rattle.ih_parfill.proofs.Least.{all-none, all-more, all-of}
use Rattle.ih_parfill.proofs.joining.lowest.Goals as goal

pub loop-w-init : goal.loop-w-init
loop-w-init c = λ I v ws all. all-none v I ws (length c.args.found.now)

pub loop-w-preserved : goal.loop-w-preserved
loop-w-preserved c = λ I v ws all.
    let n = length c.args.found.now in
    let below = c.loop-w-test.true in
    all-more v I ws n c.loop-w.w c.loop-w.best (slice_index_or c.args.found.now c.loop-w.w None) c.lower-best.result c.lower-best.ensures
    (c.loop-w.invariant I v ws all) (all.each c.loop-w.w None below)

pub returns : goal.returns
returns c = λ I v ws all.
    let ended = c.loop-w-test.false in
    all-of v I ws (length c.args.found.now) c.loop-w.w c.loop-w.best c.requires ended (c.loop-w.invariant I v ws all)
