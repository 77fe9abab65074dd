use Rattle.std.proofs.Common.{◌≡◌, map}
use Rattle.ih_plan.specs.Costs.{is_number}
use Rattle.ih_plan.specs.Sums.{which_below}
use Rattle.ih_plan.specs.Timetable.{care_of}
use Rattle.ih_solution.specs.Solution.{room_id}
use Rattle.ih_sheet.proofs.nurses.rooms_of.Given as goal

abbrev pub invariant-loop-r : goal.invariant-loop-r
invariant-loop-r l = map (λ id. id.now) l.ids.items
    ≡ map (room_id l.shown.inst.now.draft) (which_below l.r (λ r. is_number (care_of l.shown.plan.now r l.shift.0) l.nurse.0))
