use Rattle.ih_tables.specs.declared.drafts.Nurse.{Nurse}
use Rattle.ih_tables.specs.declared.ids.NurseNo.{NurseNo}
use Rattle.ih_carry.proofs.Known.{found-inside}
use Rattle.ih_carry.proofs.ids.nurse_with.Goals as goal

pub returns-clause-inside : goal.returns-clause-inside
returns-clause-inside c =
    found-inside (λ (x : NurseNo). x.0) (λ (a : Nurse). a.id) c.args.inst.now.draft.nurses c.args.id.now c.find_nurse.result c.find_nurse.ensures
