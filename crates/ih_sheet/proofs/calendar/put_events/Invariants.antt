use Rattle.std.proofs.Common.{◌≡◌, ◌++◌}
use Rattle.std.specs.List.{flat_map}
use Rattle.ih_plan.specs.Costs.{operated_in}
use Rattle.ih_plan.specs.Sums.{which_below}
use Rattle.ih_plan.specs.Timetable.{stay_of}
use Rattle.ih_sheet.specs.Calendar.{event, line_text}
use Rattle.ih_sheet.proofs.calendar.put_events.Given as goal

abbrev pub invariant-loop-p : goal.invariant-loop-p
invariant-loop-p l = l.out.items ≡ l.initial.out.items ++ flat_map line_text
    (flat_map (event l.shown.inst.now.draft l.shown.plan.now l.digits l.theatre.0)
    (which_below l.p (λ p. operated_in l.theatre.0 l.day (stay_of l.shown.plan.now p))))
