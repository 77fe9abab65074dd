use Rattle.std.proofs.Common.{arith, refl}
use Rattle.ih_theatres.proofs.LedgerLemmas.{ledger-left, in-theatres, in-surgeons, theatre-below, surgeon-below, theatre-enough, surgeon-enough}
use Rattle.ih_theatres.proofs.theatres.Theatres.leave.Goals as goal

pub remove-requires : goal.remove-requires
remove-requires c =
    let s = c.requires.stands in
    record { linked = in-theatres c.args.inst.now.valid s.1 c.args.patient_no c.requires.patient c.args.at s.2 }

pub remove-requires-2 : goal.remove-requires-2
remove-requires-2 c =
    let s = c.requires.stands in
    record { linked = in-surgeons c.args.inst.now.valid s.1 c.args.patient_no c.requires.patient c.args.at c.patient-patient.result.now c.patient-patient.ensures s.2 }

pub index_mut-requires : goal.index_mut-requires
index_mut-requires c =
    let s = c.requires.stands in
    let fits = s.1.plan.placed c.args.patient_no.0 c.args.at s.2 in
    rw (c.args.self.now.theatre_minutes.ok.0, c.day_number-theatre_day.ensures) (theatre-below c.args.inst.now.valid s.1 c.args.patient_no c.requires.patient c.args.at _ c.patient-patient.ensures fits)

pub overflow_sub-index_mut : goal.overflow_sub-index_mut
overflow_sub-index_mut c =
    let s = c.requires.stands in
    let enough = theatre-enough c.args.inst.now.valid s.1 c.args.patient_no c.requires.patient c.args.at c.patient-patient.result.now c.patient-patient.ensures (s.1.plan.placed c.args.patient_no.0 c.args.at s.2) _
    (rw c.day_number-theatre_day.ensures at c.index_mut.ensures.value) s.2 in
    omega arith

pub index_mut-requires-2 : goal.index_mut-requires-2
index_mut-requires-2 c =
    let s = c.requires.stands in
    let fits = s.1.plan.placed c.args.patient_no.0 c.args.at s.2 in
    rw (c.args.self.now.surgeon_minutes.ok.0, c.day_number-surgeon_day.ensures) (surgeon-below c.args.inst.now.valid s.1 c.args.patient_no c.requires.patient c.args.at _ c.patient-patient.ensures fits)

pub overflow_sub-index_mut-2 : goal.overflow_sub-index_mut-2
overflow_sub-index_mut-2 c =
    let s = c.requires.stands in
    let enough = surgeon-enough c.args.inst.now.valid s.1 c.args.patient_no c.requires.patient c.args.at c.patient-patient.result.now c.patient-patient.ensures (s.1.plan.placed c.args.patient_no.0 c.args.at s.2) _
    (rw c.day_number-surgeon_day.ensures at c.index_mut-2.ensures.value) s.2 in
    omega arith

pub returns : goal.returns
returns c = λ P stands there.
    ledger-left c.args.inst.now.valid stands c.args.patient_no c.requires.patient c.args.at c.patient-patient.result.now c.patient-patient.ensures (stands.plan.placed c.args.patient_no.0 c.args.at there) _ _ _
    (rw c.day_number-theatre_day.ensures at c.index_mut.ensures.value) (rw c.day_number-surgeon_day.ensures at c.index_mut-2.ensures.value) there
    refl c.remove.ensures.lists c.remove.ensures.nodes c.remove-2.ensures.lists c.remove-2.ensures.nodes
    (rw c.day_number-theatre_day.ensures refl) (rw c.day_number-surgeon_day.ensures refl)
