use Rattle.ih_sheet.specs.Dates.{AreDates}
use Rattle.ih_sheet.proofs.dates.dates_of.Given as goal

abbrev pub invariant-loop-day : goal.invariant-loop-day
invariant-loop-day l = AreDates l.first l.day l.dates.items
