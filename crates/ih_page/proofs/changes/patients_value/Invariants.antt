use Rattle.std.proofs.Common.{◌≡◌, map}
use Rattle.ih_plan.specs.Sums.{which_below}
use Rattle.ih_changes.specs.Changes.{is_changed}
use Rattle.ih_page.specs.Changes.{was_stay}
use Rattle.ih_values.specs.Objects.{elements}
use Rattle.ih_page.proofs.changes.patients_value.Given as goal

abbrev pub invariant-loop-p : goal.invariant-loop-p
invariant-loop-p l = elements l.values
    ≡ map (was_stay l.both.older.now) (which_below l.p (is_changed l.both.older.now l.both.plan.now))
