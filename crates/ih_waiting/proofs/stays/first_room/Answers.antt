use Rattle.std.proofs.Common.{◌≡◌, ◌∙◌, ◌<◌, ap, arith, sym, true, false}
use Rattle.std.specs.Prelude.{not}
use Rattle.ih_tables.specs.Sizes.{room_count}
use Rattle.ih_fill.specs.Candidates.{suits}
use Rattle.ih_waiting.proofs.FirstStays.{first-room, no-room-more}
use Rattle.ih_waiting.proofs.stays.first_room.Goals as goal

pub returns-then-suits-clause-first : goal.returns-then-suits-clause-first
returns-then-suits-clause-first c =
    let a = c.args.patient.now in
    let r = c.loop-r.r in
    let good : suits a r ≡ true = ap not (sym c.is_incompatible-suits.ensures ∙ c.if-suits.true) in
    let below : r < room_count c.args.inst.now.draft = omega (arith, c.loop-r-test.true, c.rooms-r-end.ensures) in
    first-room a r (room_count c.args.inst.now.draft) c.loop-r.invariant good below

pub loop-r-preserved : goal.loop-r-preserved
loop-r-preserved c =
    let a = c.args.patient.now in
    let bad : suits a c.loop-r.r ≡ false = ap not (sym c.is_incompatible-suits.ensures ∙ c.if-suits.false) in
    no-room-more a c.loop-r.r c.loop-r.invariant bad
