use Rattle.std.proofs.Common.{◌≡◌, map}
use Rattle.ih_plan.specs.Sums.{which_below}
use Rattle.ih_page.specs.Waits.{is_out, wait_data}
use Rattle.ih_values.specs.Objects.{elements}
use Rattle.ih_page.proofs.waits.waits_value_by.Given as goal

abbrev pub invariant-loop-p : goal.invariant-loop-p
invariant-loop-p l = elements l.values
    ≡ map (wait_data l.inst.draft l.scorer.plan) (which_below l.p (is_out l.scorer.plan))
