use Rattle.std.proofs.Common.{◌≡◌, ◌*◌, ◌+◌, take}
use Rattle.ih_tables.specs.Sizes.{shift_count}
use Rattle.ih_costs.specs.CellLedgers.{AreLedgers, timetable_of}
use Rattle.ih_costs.proofs.copies.copy_room.Given as goal

-- the choices of the rooms before and those of this room so far are those of the plan
abbrev pub invariant-loop-k : goal.invariant-loop-k
invariant-loop-k l = record {
  stands : AreLedgers l.inst.draft l.ledgers;
  stays : (timetable_of l.ledgers).stays ≡ (timetable_of l.fn.ledgers).stays;
  copied : take (shift_count l.inst.draft * l.room.0 + l.k) (timetable_of l.ledgers).cares ≡ take (shift_count l.inst.draft * l.room.0 + l.k) l.plan.cares;
}
