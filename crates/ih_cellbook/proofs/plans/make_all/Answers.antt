use Rattle.std.proofs.Common.{◌∙◌, sym, arith}
use Rattle.ih_plan.proofs.PlanRanges.{after-plan}
use Rattle.ih_cellbook.proofs.MoveSteps.{last-move, next-made, next-move}
use Rattle.ih_cellbook.proofs.plans.make_all.Goals as goal

pub make_move-requires : goal.make_move-requires
make_move-requires c =
    let fits = (next-move c.args.inst.now.draft c.args.moves.now c.loop-mv.mv-index _ c.loop-mv-test.true c.loop-mv.invariant.rest).0 in
    record { plan = c.loop-mv.invariant.fits; move_in = fits }

pub loop-mv-preserved : goal.loop-mv-preserved
loop-mv-preserved c =
    let I = c.args.inst.now.draft in
    let next = next-move I c.args.moves.now c.loop-mv.mv-index _ c.loop-mv-test.true c.loop-mv.invariant.rest in
    record {
      fits = rw c.make_move.ensures (after-plan I c.loop-mv.plan _ c.loop-mv.invariant.fits next.0);
      rest = next.1;
      whole = rw c.make_move.ensures (next-made I c.loop-mv.plan c.args.moves.now c.loop-mv.mv-index _ c.loop-mv-test.true ∙ c.loop-mv.invariant.whole);
    }

pub returns : goal.returns
returns c =
    let past = c.loop-mv-test.false in
    sym (last-move c.args.inst.now.draft c.loop-mv.plan c.args.moves.now c.loop-mv.mv-index (omega arith)) ∙ c.loop-mv.invariant.whole
