use Rattle.ih_roomdays.specs.RoomLists.{IsEntered}
use Rattle.ih_roomdays.proofs.room_lists.RoomLists.enter.Given as goal

abbrev pub invariant-loop-d : goal.invariant-loop-d
invariant-loop-d l = IsEntered l.initial.self l.self l.room l.person l.from l.d
