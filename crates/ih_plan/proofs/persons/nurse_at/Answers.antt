use Rattle.ih_plan.proofs.PlanRanges.{choice-inside, nurse-inside}
use Rattle.ih_plan.proofs.persons.nurse_at.Goals as goal

pub care-requires : goal.care-requires
care-requires c = choice-inside c.args.inst.now.draft c.args.plan.now c.args.room.0 c.args.shift.0 c.requires.plan c.requires.room c.requires.shift

pub returns-clause-nurse : goal.returns-clause-nurse
returns-clause-nurse c = rw c.care.ensures (nurse-inside c.args.inst.now.draft c.args.plan.now c.args.room.0 c.args.shift.0 c.requires.plan)
