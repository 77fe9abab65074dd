use Rattle.std.proofs.Common.{◌≡◌, ◌++◌, map}
use Rattle.csv.specs.Records.{fields_of}
use Rattle.ih_sheet.specs.Rows.{rows_below, rows_of_day}
use Rattle.ih_sheet.proofs.surgeries.put_theatre.Given as goal

abbrev pub invariant-loop-d : goal.invariant-loop-d
invariant-loop-d l = map fields_of l.rows.items ≡ map fields_of l.initial.rows.items
    ++ rows_below l.d (rows_of_day l.shown.inst.now.draft l.shown.dates.now l.shown.plan.now l.theatre.0)
