use Rattle.std.proofs.Common.{◌≡◌, ◌*◌, map}
use Rattle.serde_json.specs.View.{view}
use Rattle.ih_plan.specs.Draws.{state_after}
use Rattle.ih_gen.specs.Generated.{workloads, skills}
use Rattle.ih_gen.proofs.persons.pick_needs.Given as goal

abbrev pub invariant-loop-shift : goal.invariant-loop-shift
invariant-loop-shift l = record {
  workloads : map view l.workloads.items ≡ workloads l.fn.picks l._shift;
  skills : map view l.skills.items ≡ skills l.fn.picks l._shift;
  rest : l.picks ≡ state_after (2 * l._shift) l.fn.picks;
}
