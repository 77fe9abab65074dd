use Rattle.std.proofs.Common.{◌≡◌, ◌∷◌, map}
use Rattle.csv.specs.Records.{fields_of}
use Rattle.ih_sheet.specs.Rows.{room_heading, rows_below, rows_of_room}
use Rattle.ih_sheet.proofs.rooms.room_rows.Given as goal

abbrev pub invariant-loop-r : goal.invariant-loop-r
invariant-loop-r l = map fields_of l.rows.items
    ≡ room_heading ∷ rows_below l.r (rows_of_room l.shown.inst.now.draft l.shown.dates.now l.shown.plan.now)
