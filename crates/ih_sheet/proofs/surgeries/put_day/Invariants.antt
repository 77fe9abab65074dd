use Rattle.std.proofs.Common.{◌≡◌, ◌++◌, map}
use Rattle.csv.specs.Records.{fields_of}
use Rattle.ih_plan.specs.Costs.{operated_in}
use Rattle.ih_plan.specs.Sums.{which_below}
use Rattle.ih_plan.specs.Timetable.{stay_of}
use Rattle.ih_sheet.specs.Rows.{surgery_row}
use Rattle.ih_sheet.proofs.surgeries.put_day.Given as goal

abbrev pub invariant-loop-p : goal.invariant-loop-p
invariant-loop-p l = map fields_of l.rows.items ≡ map fields_of l.initial.rows.items
    ++ map (surgery_row l.shown.inst.now.draft l.shown.dates.now l.theatre.0 l.day)
    (which_below l.p (λ p. operated_in l.theatre.0 l.day (stay_of l.shown.plan.now p)))
