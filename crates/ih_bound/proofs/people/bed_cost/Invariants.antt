use Rattle.std.proofs.Common.{◌≤◌}
use Rattle.std.specs.Prelude.{if◌then◌else◌}
use Rattle.ih_plan.specs.Sums.{sum_below}
use Rattle.ih_plan.specs.Presence.{covers}
use Rattle.ih_bound.specs.Tariffs.{tariff_of}
use Rattle.ih_bound.proofs.people.bed_cost.Given as goal

abbrev pub invariant-loop-d : goal.invariant-loop-d
invariant-loop-d l = l.sum ≤ sum_below l.d (λ d. if covers l.day l.len d then (tariff_of l.inst.draft l.rates l.prices).bed d else 0)
