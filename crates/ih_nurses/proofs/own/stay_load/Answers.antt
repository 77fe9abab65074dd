use Rattle.std.proofs.Common.{◌≡◌, ◌∙◌, ◌-◌, ◌*◌, ap, arith, sym, true, slice_index}
use Rattle.ih_plan.specs.Timetable.{care_of}
use Rattle.ih_plan.specs.Persons.{person_of}
use Rattle.ih_plan.specs.Costs.{is_number}
use Rattle.ih_plan.proofs.Overtime.{workload-most}
use Rattle.ih_nurses.proofs.VisitLemmas.{workload-len, entry-counted}
use Rattle.ih_nurses.proofs.own.stay_load.Goals as goal

pub returns-then-is_nurse-clause-value : goal.returns-then-is_nurse-clause-value
returns-then-is_nurse-clause-value c =
    let I = c.args.inst.now.draft in
    let at = c.args.at in
    let k = c.args.shift.0 in
    let person = person_of I c.args.patient.0 in
    let nursed : is_number (care_of c.args.plan.now at.room.0 k) c.args.nurse.0 ≡ true = rw c.nurse_at.ensures.choice at (sym c.is_nurse.ensures ∙ c.if-is_nurse.true) in
    let len = workload-len I c.args.patient.0 c.args.inst.now.valid in
    rw nursed
    (c.entry_or_none.ensures ∙ (ap (λ list. slice_index list (k - 3 * at.day.0)) c.requires.workload ∙ sym (entry-counted I at.day.0 person.length_of_stay k person.workload len (omega arith))))

pub returns-then-is_nurse-clause-bound : goal.returns-then-is_nurse-clause-bound
returns-then-is_nurse-clause-bound c =
    let I = c.args.inst.now.draft in
    let place = c.args.shift.0 - 3 * c.args.at.day.0 in
    let load : c.entry_or_none.result ≡ slice_index (person_of I c.args.patient.0).workload place = c.entry_or_none.ensures ∙ ap (λ list. slice_index list place) c.requires.workload in
    omega (arith, load, workload-most I c.args.patient.0 place c.args.inst.now.valid)
