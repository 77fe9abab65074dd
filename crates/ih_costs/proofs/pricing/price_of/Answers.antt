use Rattle.std.proofs.Common.{◌∙◌, ap}
use Rattle.ih_plan.specs.Writes.{put_all}
use Rattle.ih_plan.specs.BillOf.{change_of_bill}
use Rattle.ih_plan.proofs.BillBounds.{change-within}
use Rattle.ih_plan.proofs.PlanRanges.{after-plan}
use Rattle.ih_costs.specs.CellLedgers.{timetable_of}
use Rattle.ih_costs.proofs.StandLemmas.{plan-fits}
use Rattle.ih_costs.proofs.pricing.price_of.Goals as goal

pub returns-clause-price : goal.returns-clause-price
returns-clause-price c =
    let I = c.args.inst.now.draft in
    let P = timetable_of c.args.ledgers.now in
    c.change_after.ensures.change
    ∙ ap (λ ws. change_of_bill I P (put_all ws P)) (c.as_slice.ensures ∙ c.expand_here.ensures.made)

pub returns-clause-within : goal.returns-clause-within
returns-clause-within c =
    let I = c.args.inst.now.draft in
    let P = timetable_of c.args.ledgers.now in
    let plan = plan-fits I P c.args.ledgers.now c.requires.stands in
    rw (returns-clause-price c) (change-within I P _ c.args.inst.now.valid plan (after-plan I P c.args.mv.now plan c.requires.move_in))
