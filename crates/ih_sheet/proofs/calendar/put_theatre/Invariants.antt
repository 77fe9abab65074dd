use Rattle.std.proofs.Common.{◌≡◌, ◌++◌}
use Rattle.std.specs.List.{flat_map}
use Rattle.ih_sheet.specs.Calendar.{events_of_day, line_text}
use Rattle.ih_sheet.specs.Rows.{rows_below}
use Rattle.ih_sheet.proofs.calendar.put_theatre.Given as goal

abbrev pub invariant-loop-d : goal.invariant-loop-d
invariant-loop-d l = l.out.items ≡ l.initial.out.items ++ flat_map line_text
    (rows_below l.d (events_of_day l.shown.inst.now.draft l.shown.dates.now l.shown.plan.now l.theatre.0))
