use Rattle.ih_roomdays.specs.RoomLists.{IsLeft}
use Rattle.ih_roomdays.proofs.room_lists.RoomLists.leave.Given as goal

abbrev pub invariant-loop-d : goal.invariant-loop-d
invariant-loop-d l = IsLeft l.initial.self l.self l.person l.from l.d
