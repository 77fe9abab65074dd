use Rattle.std.proofs.Common.{◌≡◌, ◌∙◌, refl, ap, Bool, true, false}
use Rattle.std.specs.Prelude.{not}
use Rattle.ih_plan.specs.Sums.{bit}
use Rattle.ih_nurses.proofs.RoomChangeLemmas.{IsRoomList, others-in}
use Rattle.ih_nurses.proofs.nurses.Nurses.alone_delta.Goals as goal

not-not : (b : Bool) → not (not b) ≡ b
not-not true = refl
not-not false = refl

pub returns : goal.returns
returns c = λ P known.
    let list : IsRoomList c.args.inst.now.draft P c.args.self.now.here.items c.index.result.now c.args.room.0 c.args.shift.0 =
    record { known = known.here_are; room = c.requires.room; shift = c.requires.shift; day_is = c.index.ensures; nodes = c.has_others.ensures.nodes } in
    c.bit.ensures.value ∙ ap bit (ap not (c.has_others.ensures.value ∙ others-in c.args.patient.0 list) ∙ not-not _)
