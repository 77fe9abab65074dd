use Rattle.std.proofs.Common.{◌≡◌, map}
use Rattle.serde_json.specs.View.{view}
use Rattle.ih_plan.specs.Draws.{state_after}
use Rattle.ih_plan.specs.Sums.{which_below, count_below}
use Rattle.ih_gen.specs.Generated.{works, worked_data}
use Rattle.ih_gen.proofs.nurses.worked_values.Given as goal

abbrev pub invariant-loop-day : goal.invariant-loop-day
invariant-loop-day l = record {
  values : map view l.values.items ≡ map (worked_data l.number l.fn.picks) (which_below l.day (works l.number));
  rest : l.picks ≡ state_after (count_below l.day (works l.number)) l.fn.picks;
}
