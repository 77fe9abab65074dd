use Rattle.ih_plan.proofs.PlanRanges.{expand-writes}
use Rattle.ih_cellbook.proofs.plans.make_move.Goals as goal

pub put_all-requires-clause-writes : goal.put_all-requires-clause-writes
put_all-requires-clause-writes c =
    rw (c.as_slice.ensures, c.expand.ensures.made)
    (expand-writes c.args.inst.now.draft c.args.plan.now c.args.mv.now c.requires.plan c.requires.move_in)
