use Rattle.std.proofs.Common.{◌≡◌, drop}
use Rattle.ih_links.specs.Lists.{AreNodes, first_of, list_of}
use Rattle.ih_roomdays.proofs.room_days.RoomDaysMembers.member.Given as goal

abbrev pub invariant-loop : goal.invariant-loop
invariant-loop l = record {
  known : AreNodes l.day.nodes (list_of l.day l.fn.room.0);
  at : l.at ≡ first_of (drop l.counter (list_of l.day l.fn.room.0));
}
