use Rattle.std.proofs.Common.{◌≡◌, map}
use Rattle.serde_json.specs.Data.{string}
use Rattle.serde_json.specs.View.{view}
use Rattle.ih_plan.specs.Sums.{which_below}
use Rattle.ih_plan.specs.Timetable.{care_of}
use Rattle.ih_plan.specs.Costs.{is_number}
use Rattle.ih_solution.specs.Solution.{room_id}
use Rattle.ih_solution.proofs.nurses.room_values.Given as goal

abbrev pub invariant-loop-r : goal.invariant-loop-r
invariant-loop-r l = map view l.values.items ≡ map (λ r. string (room_id l.inst.draft r)) (which_below l.r (λ r. is_number (care_of l.plan r l.shift.0) l.nurse.0))
