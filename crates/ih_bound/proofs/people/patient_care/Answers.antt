use Rattle.std.proofs.Common.{◌∙◌}
use Rattle.ih_bound.specs.Stays.{asked}
use Rattle.ih_bound.proofs.LeastPaid.{asked-by_patient, admission-stay}
use Rattle.ih_bound.proofs.people.patient_care.Goals as goal

pub returns : goal.returns
returns c = λ P at feasible is on.
    let I = c.args.inst.now.draft in
    let q = c.patient-q.result.now in
    let stay = c.stay_from-stay.result in
    c.care.ensures P c.args.patient.0 c.args.day at.room.0 feasible
    (asked-by_patient I c.args.patient.0 c.args.day q (asked stay.skill.now stay.load.now stay.first stay.last) c.requires.patient c.patient-q.ensures (c.stay_from-stay.ensures.lists.0 ∙ c.as_slice-skill.ensures)
    (c.stay_from-stay.ensures.lists.1 ∙ c.as_slice-load.ensures) c.stay_from-stay.ensures.first c.stay_from-stay.ensures.last)
    (rw on at (admission-stay I P c.args.patient.0 at c.requires.patient is))
