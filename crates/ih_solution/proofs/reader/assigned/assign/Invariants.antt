use Rattle.ih_solution.proofs.Assigned.{HasRooms}
use Rattle.ih_solution.proofs.reader.assigned.assign.Given as goal

abbrev pub invariant-loop-room : goal.invariant-loop-room
invariant-loop-room l = HasRooms l.inst.draft l.nurse l.given.shift l.given.rooms l.room-index l.fn.plan l.plan
