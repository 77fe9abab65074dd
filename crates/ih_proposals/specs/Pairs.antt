-- Two rooms with their nurses.
use Rattle.std.specs.Prelude.{◌<◌}
use Rattle.ih_tables.specs.declared.drafts.Draft.{Draft}
use Rattle.ih_tables.specs.Sizes.{nurse_count, room_count}
use Rattle.ih_proposals.specs.declared.nurse_swap.Pair.{Pair}

-- All four are in range.
pub record IsPair (I : Draft) (p : Pair) : Type 0 where
  pub room : p.room.0 < room_count I
  pub nurse : p.nurse.0 < nurse_count I
  pub other_room : p.other_room.0 < room_count I
  pub other_nurse : p.other_nurse.0 < nurse_count I
