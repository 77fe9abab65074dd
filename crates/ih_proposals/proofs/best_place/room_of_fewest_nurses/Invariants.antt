use Rattle.std.proofs.Common.{◌<◌}
use Rattle.std.specs.Prelude.{IfSome}
use Rattle.ih_tables.specs.Sizes.{room_count}
use Rattle.ih_proposals.specs.declared.best_place.RoomChoice.{RoomChoice}
use Rattle.ih_proposals.proofs.best_place.room_of_fewest_nurses.Given as goal

abbrev pub invariant-loop : goal.invariant-loop
invariant-loop l = IfSome l.best (λ (c : RoomChoice). c.room.0 < room_count l.here.inst.now.draft)
