use Rattle.ih_tables.specs.declared.drafts.Room.{Room}
use Rattle.ih_tables.specs.declared.ids.RoomNo.{RoomNo}
use Rattle.ih_carry.proofs.Known.{found-inside}
use Rattle.ih_carry.proofs.ids.room_with.Goals as goal

pub returns-clause-inside : goal.returns-clause-inside
returns-clause-inside c =
    found-inside (λ (x : RoomNo). x.0) (λ (a : Room). a.id) c.args.inst.now.draft.rooms c.args.id.now c.find_room.result c.find_room.ensures
