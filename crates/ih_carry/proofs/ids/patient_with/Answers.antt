use Rattle.ih_tables.specs.declared.drafts.Patient.{Patient}
use Rattle.ih_tables.specs.declared.ids.PatientNo.{PatientNo}
use Rattle.ih_carry.proofs.Known.{found-inside}
use Rattle.ih_carry.proofs.ids.patient_with.Goals as goal

pub returns-clause-inside : goal.returns-clause-inside
returns-clause-inside c =
    found-inside (λ (x : PatientNo). x.0) (λ (a : Patient). a.id) c.args.inst.now.draft.patients c.args.id.now c.find_patient.result c.find_patient.ensures
