use Rattle.std.proofs.Common.{◌<◌, ◌^◌, ap, sym, subst, arith, length}
use Rattle.ih_tables.specs.Bills.{IsWithin}
use Rattle.ih_costs.specs.declared.stay_prices.DaysMore.{DaysMore}
use Rattle.ih_costs.specs.declared.stay_prices.ShiftsMore.{ShiftsMore}
use Rattle.ih_costs.specs.CellLedgers.{timetable_of}
use Rattle.ih_costs.proofs.DeltaNumbers.{delta-within}
use Rattle.ih_costs.proofs.DeltaParts.{own-delta, parts-passed}
use Rattle.ih_costs.proofs.StandLemmas.{plan-fits}
use Rattle.ih_costs.proofs.cell_ledgers.CellLedgers.delta.Goals as goal

pub returns-clause-delta : goal.returns-clause-delta
returns-clause-delta c =
    let I = c.args.inst.now.draft in
    let P = timetable_of c.args.self.now in
    let stands = c.requires.stands in
    let plan = plan-fits I P c.args.self.now stands in
    let sizes = plan.stays in
    let patient = c.requires.patient in
    let days = c.more_over_days-days.ensures in
    let shifts = c.more_over_shifts-shifts.ensures in
    let inside : c.args.trial.now.patient.0 < length P.stays = omega arith in
    parts-passed I P c.args.trial.now.patient c.args.trial.now.at c.stay_change-own.result c.surgery_delta-surgery.result c.care_delta-care.result
    c.more_over_days-days.result.mixed c.more_over_days-days.result.crowded c.more_over_days-days.result.ages
    c.more_over_shifts-shifts.result.uncovered c.more_over_shifts-shifts.result.missing_skill c.more_over_shifts-shifts.result.overload
    (own-delta I P c.args.trial.now.patient c.args.trial.now.at c.patient.result.now c.stay_change-own.result c.patient.ensures inside c.stay_change-own.ensures)
    c.surgery_delta-surgery.ensures
    (c.care_delta-care.ensures.delta P stands.nurses)
    (ap (λ (m : DaysMore). m.mixed) days) (ap (λ (m : DaysMore). m.crowded) days) (ap (λ (m : DaysMore). m.ages) days)
    (ap (λ (m : ShiftsMore). m.uncovered) shifts) (ap (λ (m : ShiftsMore). m.missing_skill) shifts) (ap (λ (m : ShiftsMore). m.overload) shifts)
    (delta-within I P c.args.trial.now.patient c.args.trial.now.at c.args.inst.now.valid plan c.requires.patient c.requires.placement)

pub returns-clause-within : goal.returns-clause-within
returns-clause-within c =
    let I = c.args.inst.now.draft in
    let P = timetable_of c.args.self.now in
    subst (IsWithin (10 ^ 11)) (sym (returns-clause-delta c))
    (delta-within I P c.args.trial.now.patient c.args.trial.now.at c.args.inst.now.valid (plan-fits I P c.args.self.now c.requires.stands) c.requires.patient c.requires.placement)
