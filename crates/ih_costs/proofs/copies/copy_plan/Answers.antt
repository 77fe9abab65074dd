use Rattle.std.proofs.Common.{◌≡◌, ◌∙◌, subst}
use Rattle.ih_costs.specs.CellLedgers.{AreLedgersOf, timetable_of}
use Rattle.ih_costs.proofs.CopyLemmas.{plan-copied}
use Rattle.ih_costs.proofs.copies.copy_plan.Goals as goal

pub returns : goal.returns
returns c =
    let I = c.args.inst.now.draft in
    let l = c.copy_cares.new.ledgers in
    let same : timetable_of l
    ≡ c.args.plan.now = plan-copied I (timetable_of l) c.args.plan.now c.copy_cares.ensures.stands.room_days.plan c.requires.plan
    (c.copy_cares.ensures.stays ∙ c.copy_stays.ensures.stays) c.copy_cares.ensures.cares in
    subst (λ P. AreLedgersOf I P l) same c.copy_cares.ensures.stands
