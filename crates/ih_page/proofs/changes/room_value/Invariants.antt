use Rattle.std.proofs.Common.{◌≡◌, map}
use Rattle.ih_plan.specs.Sums.{which_below}
use Rattle.ih_changes.specs.Changes.{has_another}
use Rattle.ih_page.specs.Changes.{was_nurse}
use Rattle.ih_values.specs.Objects.{elements}
use Rattle.ih_page.proofs.changes.room_value.Given as goal

abbrev pub invariant-loop-k : goal.invariant-loop-k
invariant-loop-k l = elements l.values
    ≡ map (was_nurse l.both.older.now l.room.0) (which_below l.k (has_another l.both.older.now l.both.plan.now l.room.0))
