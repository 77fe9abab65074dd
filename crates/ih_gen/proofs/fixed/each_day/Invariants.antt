use Rattle.std.proofs.Common.{◌≡◌, map}
use Rattle.serde_json.specs.View.{view}
use Rattle.ih_tables.specs.Listed.{listed}
use Rattle.ih_solution.specs.Solution.{number_data}
use Rattle.ih_gen.proofs.fixed.each_day.Given as goal

abbrev pub invariant-loop-day : goal.invariant-loop-day
invariant-loop-day l = map view l.values.items ≡ listed l._day (λ d. number_data l.minutes)
