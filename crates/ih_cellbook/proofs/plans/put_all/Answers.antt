use Rattle.std.proofs.Common.{◌∙◌}
use Rattle.ih_plan.proofs.PlanRanges.{put-plan, write-inside}
use Rattle.ih_cellbook.proofs.WriteSteps.{next-write, next-put}
use Rattle.ih_cellbook.proofs.plans.put_all.Goals as goal

pub put-requires : goal.put-requires
put-requires c =
    let fits = (next-write c.args.inst.now.draft c.args.writes.now c.loop-w.w-index _ c.loop-w-test.true c.loop-w.invariant.rest).0 in
    write-inside c.args.inst.now.draft c.loop-w.plan _ c.loop-w.invariant.fits fits

pub loop-w-preserved : goal.loop-w-preserved
loop-w-preserved c =
    let next = next-write c.args.inst.now.draft c.args.writes.now c.loop-w.w-index _ c.loop-w-test.true c.loop-w.invariant.rest in
    record {
      fits = rw c.put.ensures (put-plan c.args.inst.now.draft c.loop-w.plan _ c.loop-w.invariant.fits next.0);
      rest = next.1;
      whole = rw c.put.ensures (next-put c.loop-w.plan c.args.writes.now c.loop-w.w-index _ c.loop-w-test.true ∙ c.loop-w.invariant.whole);
    }
