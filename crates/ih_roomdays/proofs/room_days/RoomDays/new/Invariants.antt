use Rattle.ih_roomdays.proofs.Occupants.{IsFilled}
use Rattle.ih_roomdays.proofs.room_days.RoomDays.new.Given as goal

abbrev pub invariant-loop-o : goal.invariant-loop-o
invariant-loop-o l = IsFilled l.fn.inst.draft l.rows l.o
