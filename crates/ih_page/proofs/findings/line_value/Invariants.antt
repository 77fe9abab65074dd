use Rattle.std.proofs.Common.{◌≡◌, map}
use Rattle.ih_plan.specs.Sums.{which_below}
use Rattle.ih_page.specs.Findings.{finding_at, is_found}
use Rattle.ih_values.specs.Objects.{elements}
use Rattle.ih_page.proofs.findings.line_value.Given as goal

abbrev pub invariant-loop-n : goal.invariant-loop-n
invariant-loop-n l = elements l.values
    ≡ map (finding_at l.ledgers.instance l.ledgers.plan l.line) (which_below l.n (is_found l.ledgers.instance l.ledgers.plan l.line))
