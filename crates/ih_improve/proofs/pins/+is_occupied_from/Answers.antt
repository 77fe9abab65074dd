use Rattle.std.proofs.Common.{◌∙◌, ◌<◌, arith, sym}
use Rattle.ih_changes.specs.Changes.{is_occupied}
use Rattle.ih_improve.proofs.PinLemmas.{any-later}
use Rattle.ih_improve.proofs.pins.+is_occupied_from.Goals as goal

pub returns-else-is_occupied : goal.returns-else-is_occupied
returns-else-is_occupied t c =
    let some = c.if-len-eq0.false in
    c.is_occupied_from.ensures
    ∙ any-later (is_occupied c.args.inst.now.draft c.args.plan.now c.args.room.0) c.args.day c.args.len (omega (arith, some)) (sym c.is_occupied.ensures ∙ c.if-is_occupied.false)
