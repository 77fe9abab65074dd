use Rattle.std.proofs.Common.{◌≡◌, map}
use Rattle.std.specs.Prelude.{not}
use Rattle.serde_json.specs.View.{view}
use Rattle.ih_plan.specs.Sums.{which_below}
use Rattle.ih_plan.specs.Costs.{is_empty}
use Rattle.ih_solution.specs.Solution.{rooms_of, rooms_data, assignment_data}
use Rattle.ih_solution.proofs.nurses.assignment_values.Given as goal

abbrev pub invariant-loop-k : goal.invariant-loop-k
invariant-loop-k l = map view l.values.items
    ≡ map (λ k. assignment_data l.inst.draft k (rooms_data l.inst.draft l.plan l.nurse.0 k)) (which_below l.k (λ k. not (is_empty (rooms_of l.inst.draft l.plan l.nurse.0 k))))
