use Rattle.std.proofs.Common.{◌∙◌, refl, length, sym}
use Rattle.ih_plan.specs.Persons.{person_of}
use Rattle.ih_nurses.proofs.LedgerLemmas.{cared}
use Rattle.ih_nurses.proofs.PlacedLemmas.{uncovered-increases, missing-increases, own-lacks}
use Rattle.ih_nurses.proofs.VisitLemmas.{skill-len, entry-inside}
use Rattle.ih_nurses.proofs.nurses.Nurses.shift_delta.Goals as goal

pub skill_delta-requires-clause-inside : goal.skill_delta-requires-clause-inside
skill_delta-requires-clause-inside c =
    let I = c.args.inst.now.draft in
    let person = person_of I c.args.visit.now.patient.0 in
    let len = skill-len I c.args.visit.now.patient.0 c.args.inst.now.valid in
    rw c.requires.visit.skill_is (entry-inside I c.args.visit.now.at.day.0 person.length_of_stay c.args.shift.0 (length person.skill) len c.requires.counted c.requires.shift)

pub returns-in-None-clause-uncovered : goal.returns-in-None-clause-uncovered
returns-in-None-clause-uncovered c = λ P known.
    let nurse = cared known c.args.visit.now.at.room.0 c.args.shift.0 c.in-None.ensures.choice in
    uncovered-increases _ P c.args.shift c.args.visit.now.patient c.args.visit.now.at known.fits c.requires.visit.patient c.requires.counted c.alone_delta.result
    (rw (← nurse) (c.alone_delta.ensures P known))

pub returns-in-None-clause-missing_skill : goal.returns-in-None-clause-missing_skill
returns-in-None-clause-missing_skill c = λ P known.
    let nurse = cared known c.args.visit.now.at.room.0 c.args.shift.0 c.in-None.ensures.choice in
    missing-increases _ P c.args.shift c.args.visit.now.patient c.args.visit.now.at known.fits c.requires.visit.patient c.requires.counted 0 (rw (← nurse) refl)

pub returns-in-Some-clause-uncovered : goal.returns-in-Some-clause-uncovered
returns-in-Some-clause-uncovered c = λ P known.
    let nurse = cared known c.args.visit.now.at.room.0 c.args.shift.0 c.in-Some.ensures.choice in
    uncovered-increases _ P c.args.shift c.args.visit.now.patient c.args.visit.now.at known.fits c.requires.visit.patient c.requires.counted 0 (rw (← nurse) refl)

pub returns-in-Some-clause-missing_skill : goal.returns-in-Some-clause-missing_skill
returns-in-Some-clause-missing_skill c = λ P known.
    let nurse = cared known c.args.visit.now.at.room.0 c.args.shift.0 c.in-Some.ensures.choice in
    let lacks = own-lacks _ P c.args.shift c.args.visit.now.patient c.args.visit.now.at known.fits c.requires.visit.patient c.requires.counted c.in-Some.n.0 in
    missing-increases _ P c.args.shift c.args.visit.now.patient c.args.visit.now.at known.fits c.requires.visit.patient c.requires.counted c.skill_delta.result
    (rw (← nurse) (rw c.requires.visit.skill_is at c.skill_delta.ensures ∙ sym lacks))
