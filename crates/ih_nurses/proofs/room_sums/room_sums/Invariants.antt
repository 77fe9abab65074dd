use Rattle.std.proofs.Common.{length}
use Rattle.ih_links.specs.Lists.{list_of}
use Rattle.ih_links.proofs.Walks.{rest_from}
use Rattle.ih_nurses.proofs.RoomSumLemmas.{IsRoomWalk}
use Rattle.ih_nurses.proofs.room_sums.room_sums.Given as goal

-- each sum is what the persons met so far give
abbrev pub invariant-loop-at : goal.invariant-loop-at
invariant-loop-at l =
    IsRoomWalk l.fn.inst.draft l.fn.plan l.fn.counts l.fn.shift.0 l.fn.new l.fn.old (list_of l.fn.persons l.fn.room.0)
    l.work l.new_missing l.old_missing l.come l.gone l.at

abbrev pub decreases-loop-at : goal.decreases-loop-at
decreases-loop-at l = length (rest_from l.at (list_of l.fn.persons l.fn.room.0))
