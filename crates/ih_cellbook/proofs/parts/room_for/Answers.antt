use Rattle.std.proofs.Common.{◌∙◌, arith}
use Rattle.ih_cellbook.proofs.parts.room_for.Goals as goal

pub loop-init : goal.loop-init
loop-init g c = (c.in_ok-entries.ensures.len, c.in_ok-entries.ensures.exact)

pub push_reserved-requires : goal.push_reserved-requires
push_reserved-requires g c =
    let len = c.loop.invariant.0 in
    let room = c.loop.invariant.1 in
    omega (arith, len, room, c.loop-test.true, c.requires)

pub loop-preserved : goal.loop-preserved
loop-preserved g c =
    let len = c.push_reserved.ensures.len in
    (omega (arith, len, c.loop.invariant.0), c.push_reserved.ensures.capacity ∙ c.loop.invariant.1)
