use Rattle.std.proofs.Common.{◌≡◌, ◌+◌, ◌++◌, string_bytes}
use Rattle.ih_tables.specs.Bills.{at}
use Rattle.ih_validate.specs.Report.{lines_below, cost_line}
use Rattle.ih_validate.proofs.reports.put_costs.Given as goal

abbrev pub invariant-loop-i : goal.invariant-loop-i
invariant-loop-i l = string_bytes l.out ≡ string_bytes l.fn.out ++ lines_below l.i (λ i. cost_line (i + 1) (at l.costs i) (at l.weights i))
