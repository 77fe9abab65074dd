use Rattle.std.proofs.Common.{◌≡◌, ◌*◌, ◌≤◌, ◌∙◌, refl, sym, ap, subst, arith}
use Rattle.ih_tables.specs.declared.ids.PatientNo.{PatientNo}
use Rattle.ih_plan.specs.Timetable.{stay_of}
use Rattle.ih_plan.specs.Persons.{person_of}
use Rattle.ih_plan.specs.Presence.{end_of}
use Rattle.ih_plan.proofs.Spans.{shift-covered}
use Rattle.ih_nurses.specs.Visits.{IsVisitOf}
use Rattle.ih_costs.specs.CellLedgers.{timetable_of}
use Rattle.ih_costs.proofs.DayDeltas.{uncovered-fits, missing_skill-fits, overload-fits, shifts-more}
use Rattle.ih_costs.proofs.DeltaSteps.{increased-none}
use Rattle.ih_costs.proofs.cell_ledgers.CellLedgers.more_over_shifts.Goals as goal

pub loop-k-init : goal.loop-k-init
loop-k-init c = record { uncovered = increased-none _ _ _; missing_skill = increased-none _ _ _; overload = increased-none _ _ _ }

pub shift_delta-delta-requires-clause-visit : goal.shift_delta-delta-requires-clause-visit
shift_delta-delta-requires-clause-visit c =
    let P = timetable_of c.args.self.now in
    let stay : stay_of P c.new-visit.result.patient.0 ≡ c.args.trial.now.old = ap (λ (p : PatientNo). stay_of P p.0) c.new-visit.ensures.patient ∙ c.requires.stay in
    subst (λ o. IsVisitOf c.args.inst.now.draft o c.new-visit.result) (sym stay) c.new-visit.ensures.visit

pub shift_delta-delta-requires-clause-counted : goal.shift_delta-delta-requires-clause-counted
shift_delta-delta-requires-clause-counted c =
    rw (c.new-visit.ensures.patient, c.new-visit.ensures.placement)
    (shift-covered c.args.trial.now.at.day.0 (person_of c.args.inst.now.draft c.args.trial.now.patient.0).length_of_stay c.args.inst.now.draft.days c.loop-k.k (omega arith)
    (omega (arith, c.end_of-end.ensures.value, c.loop-k-test.true)))

pub overflow_add-uncovered : goal.overflow_add-uncovered
overflow_add-uncovered c =
    uncovered-fits _ _ _ _ _ _ _ _ c.loop-k.invariant (omega (arith, c.args.inst.now.valid.days.most)) c.shift_delta-delta.result.uncovered (omega arith)

pub overflow_add-missing_skill : goal.overflow_add-missing_skill
overflow_add-missing_skill c =
    missing_skill-fits _ _ _ _ _ _ _ _ c.loop-k.invariant (omega (arith, c.args.inst.now.valid.days.most)) c.shift_delta-delta.result.missing_skill (omega arith)

pub overflow_add-overload : goal.overflow_add-overload
overflow_add-overload c =
    overload-fits _ _ _ _ _ _ _ _ c.loop-k.invariant (omega (arith, c.args.inst.now.valid.days.most)) c.shift_delta-delta.result.overload (omega arith)

pub loop-k-preserved : goal.loop-k-preserved
loop-k-preserved c =
    let P = timetable_of c.args.self.now in
    let days = c.args.inst.now.valid.days in
    let few : c.loop-k.k ≤ 200 = omega arith in
    let delta = c.shift_delta-delta.result in
    let told = c.shift_delta-delta.ensures in
    let stands = c.requires.stands.nurses in
    let uncovered = rw (c.new-visit.ensures.patient, c.new-visit.ensures.placement) at (told.uncovered P stands) in
    let missing = rw (c.new-visit.ensures.patient, c.new-visit.ensures.placement) at (told.missing_skill P stands) in
    let overload = rw (c.new-visit.ensures.patient, c.new-visit.ensures.placement) at (told.overload P stands) in
    shifts-more c.args.inst.now.draft P c.args.trial.now.patient c.args.trial.now.at c.loop-k.k _ _ _ c.loop-k.invariant few (omega arith)
    delta.uncovered delta.missing_skill delta.overload (omega arith) (omega arith) (omega arith) uncovered missing overload

pub returns : goal.returns
returns c =
    let I = c.args.inst.now.draft in
    let order = c.end_of-end.ensures.order in
    let whole : c.loop-k.k ≡ 3 * end_of I c.args.trial.now.patient.0 c.args.trial.now.at = omega (arith, c.end_of-end.ensures.value) in
    let told = rw whole at c.loop-k.invariant in
    rw (told.uncovered.told, told.missing_skill.told, told.overload.told) refl
