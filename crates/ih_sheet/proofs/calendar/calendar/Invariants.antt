use Rattle.std.proofs.Common.{◌≡◌, ◌++◌}
use Rattle.std.specs.List.{flat_map}
use Rattle.ih_sheet.specs.Calendar.{calendar_head, events_of_theatre, line_text}
use Rattle.ih_sheet.specs.Rows.{rows_below}
use Rattle.ih_sheet.proofs.calendar.calendar.Given as goal

abbrev pub invariant-loop-t : goal.invariant-loop-t
invariant-loop-t l = l.out.items ≡ flat_map line_text
    (calendar_head ++ rows_below l.t (events_of_theatre l.shown.inst.now.draft l.shown.dates.now l.shown.plan.now))
