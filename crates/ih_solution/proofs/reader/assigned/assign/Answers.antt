use Rattle.std.proofs.Common.{refl, arith, length, ap}
use Rattle.ih_plan.proofs.PlanRanges.{choice-inside}
use Rattle.ih_solution.proofs.Assigned.{has_rooms-more, has_rooms-all}
use Rattle.ih_solution.proofs.reader.assigned.assign.Goals as goal

pub loop-room-init : goal.loop-room-init
loop-room-init c = record { plan = c.requires.plan; rest = refl }

pub put-requires : goal.put-requires
put-requires c =
    let items = c.as_slice-room-items.ensures in
    rw items (choice-inside _ _ _ _ c.loop-room.invariant.plan (c.requires.fits.rooms c.loop-room.room-index _ (rw items at c.loop-room-test.true)) c.requires.fits.shift)

pub loop-room-preserved : goal.loop-room-preserved
loop-room-preserved c =
    let items = c.as_slice-room-items.ensures in
    let inside = rw items at c.loop-room-test.true in
    rw (c.put.ensures, items) (has_rooms-more _ c.loop-room.invariant inside (c.requires.fits.rooms c.loop-room.room-index _ inside) c.requires.fits.shift c.requires.nurse)

pub returns-clause-plan : goal.returns-clause-plan
returns-clause-plan c = c.loop-room.invariant.plan

pub returns-clause-gives : goal.returns-clause-gives
returns-clause-gives c =
    let count = ap length c.as_slice-room-items.ensures in
    has_rooms-all c.loop-room.invariant (omega (arith, count, c.loop-room-test.false))
