use Rattle.std.proofs.Common.{◌∙◌, refl, sym}
use Rattle.std.proofs.lemmas.Bool.{eq-eqb}
use Rattle.ih_plan.proofs.Whereabouts.{stay-length}
use Rattle.ih_roomdays.proofs.changes.is_there.Goals as goal

pub returns-then-at-room : goal.returns-then-at-room
returns-then-at-room c =
    let long = stay-length c.args.inst.now.draft c.args.patient.0 c.patient.result.now c.patient.ensures in
    let here = eq-eqb c.in-Some.at.room.0 c.args.room.0 c.if-at-room.true in
    c.covers.ensures ∙ sym (rw (c.in-Some.is, long, here) refl)
