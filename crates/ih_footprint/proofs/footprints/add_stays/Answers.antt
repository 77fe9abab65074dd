use Rattle.ih_footprint.proofs.GatherLemmas.{gathers-like, gathers-both, gathers-none}
use Rattle.ih_tables.specs.declared.cells.Cell.TheVariants.{Stay}
use Rattle.ih_footprint.proofs.LookLemmas.{swap_rooms-pieces, swap_rooms-none, swap_rooms-first, swap_rooms-second}
use Rattle.ih_footprint.proofs.footprints.add_stays.Goals as goal

pub add_cell-requires : goal.add_cell-requires
add_cell-requires c = c.requires (Stay c.args.patient) (swap_rooms-first c.args.patient c.args.other c.if-patient-other.true)

pub add_cell-requires-then-patient-other : goal.add_cell-requires-then-patient-other
add_cell-requires-then-patient-other c = rw c.add_cell.ensures.sizes (c.requires (Stay c.args.other) (swap_rooms-second c.args.patient c.args.other c.if-patient-other.true))

pub returns-then-patient-other : goal.returns-then-patient-other
returns-then-patient-other c = gathers-like (λ e range. swap_rooms-pieces c.args.patient c.args.other c.if-patient-other.true e) (gathers-both c.add_cell.ensures c.add_cell-then-patient-other.ensures)

pub returns-else-patient-other : goal.returns-else-patient-other
returns-else-patient-other c = gathers-none (swap_rooms-none c.args.patient c.args.other c.if-patient-other.false)
