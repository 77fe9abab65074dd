use Rattle.ih_footprint.proofs.GatherLemmas.{gathers-like, gathers-both, gathers-none}
use Rattle.ih_tables.specs.declared.cells.Cell.TheVariants.{RoomShift}
use Rattle.ih_footprint.proofs.LookLemmas.{swap_nurses-pieces, swap_nurses-none, swap_nurses-first, swap_nurses-second}
use Rattle.ih_footprint.proofs.footprints.add_room_shifts.Goals as goal

pub add_cell-requires : goal.add_cell-requires
add_cell-requires c = c.requires (RoomShift c.args.one c.args.shift) (swap_nurses-first c.args.shift c.args.one c.args.other c.if-one-other.true)

pub add_cell-requires-then-one-other : goal.add_cell-requires-then-one-other
add_cell-requires-then-one-other c = rw c.add_cell.ensures.sizes (c.requires (RoomShift c.args.other c.args.shift) (swap_nurses-second c.args.shift c.args.one c.args.other c.if-one-other.true))

pub returns-then-one-other : goal.returns-then-one-other
returns-then-one-other c = gathers-like (λ e range. swap_nurses-pieces c.args.shift c.args.one c.args.other c.if-one-other.true e) (gathers-both c.add_cell.ensures c.add_cell-then-one-other.ensures)

pub returns-else-one-other : goal.returns-else-one-other
returns-else-one-other c = gathers-none (swap_nurses-none c.args.shift c.args.one c.args.other c.if-one-other.false)
