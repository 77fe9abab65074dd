use Rattle.std.proofs.Common.{◌≡◌, ◌∙◌, ◌-◌, ◌*◌, arith, ap, length, slice_index, subst, pos, Some}
use Rattle.ih_tables.specs.Works.{max_load}
use Rattle.ih_plan.specs.Timetable.{Timetable, care_of}
use Rattle.ih_plan.specs.Persons.{person_of}
use Rattle.ih_nurses.specs.Loads.{load_at}
use Rattle.ih_nurses.specs.Deltas.{overload_in, increase_by_placement}
use Rattle.ih_plan.proofs.Overtime.{workload-most}
use Rattle.ih_nurses.proofs.AdmitLemmas.{load-most}
use Rattle.ih_nurses.proofs.GivenLemmas.{load-has}
use Rattle.ih_nurses.proofs.PlacedLemmas.{load-increases, overload-increases}
use Rattle.ih_nurses.proofs.LedgerLemmas.{stands-own}
use Rattle.ih_nurses.proofs.VisitLemmas.{workload-len, entry-inside}
use Rattle.ih_nurses.proofs.nurses.Nurses.load_delta.Goals as goal

pub entry-come-requires-clause-inside : goal.entry-come-requires-clause-inside
entry-come-requires-clause-inside c =
    let I = c.args.inst.now.draft in
    let person = person_of I c.args.visit.now.patient.0 in
    let len = workload-len I c.args.visit.now.patient.0 c.args.inst.now.valid in
    rw c.requires.visit.workload_is (entry-inside I c.args.visit.now.at.day.0 person.length_of_stay c.args.shift.0 (length person.workload) len c.requires.counted c.requires.shift)

pub present_stay_load-gone-requires-clause-small : goal.present_stay_load-gone-requires-clause-small
present_stay_load-gone-requires-clause-small c =
    let I = c.args.inst.now.draft in
    let place = c.args.shift.0 - 3 * c.args.visit.now.at.day.0 in
    let come : c.entry-come.result ≡ slice_index (person_of I c.args.visit.now.patient.0).workload place = c.entry-come.ensures ∙ ap (λ list. slice_index list place) c.requires.visit.workload_is in
    omega (arith, come, workload-most I c.args.visit.now.patient.0 place c.args.inst.now.valid)

pub overflow_sub-without : goal.overflow_sub-without
overflow_sub-without c =
    let own = stands-own c.requires.stands.1 in
    let I = c.args.inst.now.draft in
    let plan = c.args.self.now.plan in
    let n = c.args.nurse.0 in
    let k = c.args.shift.0 in
    let all = c.load-all.ensures.work ∙ (ap (λ ls. load_at I ls n k) c.as_slice.ensures.value ∙ own.loads_are.each n k c.requires.nurse c.requires.shift) in
    omega (arith, all, c.present_stay_load-gone.ensures.value, load-has I plan c.args.visit.now.patient own.fits c.requires.visit.patient n k)

pub overflow_add-with : goal.overflow_add-with
overflow_add-with c =
    let own = stands-own c.requires.stands.1 in
    let I = c.args.inst.now.draft in
    let n = c.args.nurse.0 in
    let k = c.args.shift.0 in
    let all = c.load-all.ensures.work ∙ (ap (λ ls. load_at I ls n k) c.as_slice.ensures.value ∙ own.loads_are.each n k c.requires.nurse c.requires.shift) in
    let place = k - 3 * c.args.visit.now.at.day.0 in
    let come : c.entry-come.result ≡ slice_index (person_of I c.args.visit.now.patient.0).workload place = c.entry-come.ensures ∙ ap (λ list. slice_index list place) c.requires.visit.workload_is in
    omega (arith, all, come, workload-most I c.args.visit.now.patient.0 place c.args.inst.now.valid, load-most I c.args.self.now.plan n k c.args.inst.now.valid)

pub returns : goal.returns
returns c = λ P known.
    let I = c.args.inst.now.draft in
    let plan = c.args.self.now.plan in
    let p = c.args.visit.now.patient in
    let n = c.args.nurse in
    let k = c.args.shift in
    let own = stands-own known in
    let nurse : care_of plan c.args.visit.now.at.room.0 k.0 ≡ Some n.0 = ap (λ (S : Timetable). care_of S c.args.visit.now.at.room.0 k.0) c.requires.stands.1.plan_is ∙ c.requires.stands.2 in
    let all = c.load-all.ensures.work ∙ (ap (λ ls. load_at I ls n.0 k.0) c.as_slice.ensures.value ∙ own.loads_are.each n.0 k.0 c.requires.nurse c.requires.shift) in
    let come : c.entry-come.result
    ≡ slice_index (person_of I p.0).workload (k.0 - 3 * c.args.visit.now.at.day.0) = c.entry-come.ensures
    ∙ ap (λ list. slice_index list (k.0 - 3 * c.args.visit.now.at.day.0)) c.requires.visit.workload_is in
    let increase = load-increases I plan k p c.args.visit.now.at own.fits c.requires.visit.patient c.requires.counted c.requires.visit.placement n nurse
    c.load-all.result.work c.present_stay_load-gone.result c.entry-come.result all c.present_stay_load-gone.ensures.value come in
    subst (λ (S : Timetable). pos (c.overload.result - c.overload-2.result) ≡ increase_by_placement S p c.args.visit.now.at (λ Q. overload_in I Q n k)) known.plan_is
    (overload-increases I plan n k p c.args.visit.now.at c.load-all.result.work c.present_stay_load-gone.result c.entry-come.result
    c.overload.result c.overload-2.result increase (c.overload.ensures (max_load I n.0 k.0) c.load-all.ensures.most) (c.overload-2.ensures (max_load I n.0 k.0) c.load-all.ensures.most))
