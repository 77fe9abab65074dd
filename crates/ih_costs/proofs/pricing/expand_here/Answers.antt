use Rattle.ih_costs.specs.CellLedgers.{timetable_of}
use Rattle.ih_costs.proofs.StandLemmas.{plan-fits}
use Rattle.ih_plan.proofs.PlanRanges.{expand-writes}
use Rattle.ih_costs.proofs.pricing.expand_here.Goals as goal

pub returns-clause-fits : goal.returns-clause-fits
returns-clause-fits c =
    let I = c.args.inst.now.draft in
    let P = timetable_of c.args.ledgers.now in
    rw (c.expand.ensures.made, c.plan.ensures) (expand-writes I P c.args.mv.now (plan-fits I P c.args.ledgers.now c.requires.stands) c.requires.move_in)
