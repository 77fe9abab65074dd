use Rattle.std.proofs.Common.{◌≡◌, ◌∷◌, ◌++◌, [], map}
use Rattle.csv.specs.Records.{fields_of}
use Rattle.ih_sheet.specs.Rows.{room_row, rows_below}
use Rattle.ih_sheet.proofs.rooms.put_room.Given as goal

abbrev pub invariant-loop-d : goal.invariant-loop-d
invariant-loop-d l = map fields_of l.rows.items ≡ map fields_of l.initial.rows.items
    ++ rows_below l.d (λ d. room_row l.shown.inst.now.draft l.shown.dates.now l.shown.plan.now l.room.0 d ∷ [])
