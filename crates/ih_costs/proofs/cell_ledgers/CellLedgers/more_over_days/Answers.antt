use Rattle.std.proofs.Common.{◌≡◌, ◌≤◌, refl, arith}
use Rattle.ih_plan.specs.Presence.{end_of}
use Rattle.ih_costs.specs.CellLedgers.{timetable_of}
use Rattle.ih_costs.proofs.DayDeltas.{mixed-fits, crowded-fits, ages-fit, days-more}
use Rattle.ih_costs.proofs.DeltaSteps.{increased-none}
use Rattle.ih_costs.proofs.cell_ledgers.CellLedgers.more_over_days.Goals as goal

pub loop-d-init : goal.loop-d-init
loop-d-init c = record { mixed = increased-none _ _ _; crowded = increased-none _ _ _; ages = increased-none _ _ _ }

pub overflow_add-mixed : goal.overflow_add-mixed
overflow_add-mixed c =
    mixed-fits _ _ _ _ _ _ _ _ c.loop-d.invariant _ (c.day_delta-day.ensures.delta _ c.requires.stands.room_days c.requires.stay)
    c.day_delta-day.ensures.within (omega (arith, c.args.inst.now.valid.days.most))

pub overflow_add-crowded : goal.overflow_add-crowded
overflow_add-crowded c =
    crowded-fits _ _ _ _ _ _ _ _ c.loop-d.invariant _ (c.day_delta-day.ensures.delta _ c.requires.stands.room_days c.requires.stay)
    c.day_delta-day.ensures.within (omega (arith, c.args.inst.now.valid.days.most))

pub overflow_add-ages : goal.overflow_add-ages
overflow_add-ages c =
    ages-fit _ _ _ _ _ _ _ _ c.loop-d.invariant _ (c.day_delta-day.ensures.delta _ c.requires.stands.room_days c.requires.stay)
    c.day_delta-day.ensures.within (omega (arith, c.args.inst.now.valid.days.most))

pub loop-d-preserved : goal.loop-d-preserved
loop-d-preserved c =
    let P = timetable_of c.args.self.now in
    let days = c.args.inst.now.valid.days in
    let few : c.loop-d.d ≤ 200 = omega arith in
    days-more c.args.inst.now.draft P c.args.trial.now.patient c.args.trial.now.at c.loop-d.d _ _ _ c.loop-d.invariant c.day_delta-day.result
    (c.day_delta-day.ensures.delta P c.requires.stands.room_days c.requires.stay) c.day_delta-day.ensures.within few (omega arith)

pub returns : goal.returns
returns c =
    let I = c.args.inst.now.draft in
    let order = c.end_of-end.ensures.order in
    let whole : c.loop-d.d ≡ end_of I c.args.trial.now.patient.0 c.args.trial.now.at = omega (arith, c.end_of-end.ensures.value) in
    let told = rw whole at c.loop-d.invariant in
    rw (told.mixed.told, told.crowded.told, told.ages.told) refl
