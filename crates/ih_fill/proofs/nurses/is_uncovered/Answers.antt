use Rattle.ih_plan.proofs.PlanRanges.{choice-inside}
use Rattle.ih_fill.proofs.nurses.is_uncovered.Goals as goal

pub care-requires : goal.care-requires
care-requires c =
    rw c.plan.ensures.value (choice-inside c.args.scorer.now.instance c.args.scorer.now.plan c.args.room.0 c.args.shift.0 c.plan.ensures.fits c.requires.room c.requires.shift)
