use Rattle.std.proofs.Common.{arith, refl}
use Rattle.ih_theatres.proofs.LedgerLemmas.{ledger-entered, surgeon-below, theatre-room, surgeon-room}
use Rattle.ih_theatres.proofs.theatres.Theatres.enter.Goals as goal

pub overflow_add-index_mut : goal.overflow_add-index_mut
overflow_add-index_mut c =
    let s = c.requires.stands in
    let room = theatre-room c.args.inst.now.valid s.1 c.args.patient_no c.requires.patient c.args.at c.patient-patient.result.now c.patient-patient.ensures c.requires.placement _
    (rw c.day_number-theatre_day.ensures at c.index_mut.ensures.value) s.2 in
    omega arith

pub index_mut-requires-2 : goal.index_mut-requires-2
index_mut-requires-2 c =
    rw (c.args.self.now.surgeon_minutes.ok.0, c.day_number-surgeon_day.ensures)
    (surgeon-below c.args.inst.now.valid c.requires.stands.1 c.args.patient_no c.requires.patient c.args.at _ c.patient-patient.ensures c.requires.placement)

pub overflow_add-index_mut-2 : goal.overflow_add-index_mut-2
overflow_add-index_mut-2 c =
    let s = c.requires.stands in
    let room = surgeon-room c.args.inst.now.valid s.1 c.args.patient_no c.requires.patient c.args.at c.patient-patient.result.now c.patient-patient.ensures c.requires.placement _
    (rw c.day_number-surgeon_day.ensures at c.index_mut-2.ensures.value) s.2 in
    omega arith

pub returns : goal.returns
returns c = λ P stands out.
    ledger-entered c.args.inst.now.valid stands c.args.patient_no c.requires.patient c.args.at c.patient-patient.result.now c.patient-patient.ensures c.requires.placement _ _ _
    (rw c.day_number-theatre_day.ensures at c.index_mut.ensures.value) (rw c.day_number-surgeon_day.ensures at c.index_mut-2.ensures.value) out
    refl (rw c.day_number-theatre_day.ensures at c.push_back.ensures.lists) c.push_back.ensures.nodes
    (rw c.day_number-surgeon_day.ensures at c.push_back-2.ensures.lists) c.push_back-2.ensures.nodes
    (rw c.day_number-theatre_day.ensures refl) (rw c.day_number-surgeon_day.ensures refl)
