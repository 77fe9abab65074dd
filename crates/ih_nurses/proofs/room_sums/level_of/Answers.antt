use Rattle.ih_nurses.proofs.RoomSumLemmas.{lack-one}
use Rattle.ih_nurses.proofs.room_sums.level_of.Goals as goal

pub returns-in-Some : goal.returns-in-Some
returns-in-Some c = λ skill small. rw c.in-Some.is (lack-one c.args.inst.now.draft c.in-Some.a.0 skill c.nurse.result.now c.nurse.ensures)
