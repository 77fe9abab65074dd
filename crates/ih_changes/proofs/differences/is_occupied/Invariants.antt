use Rattle.std.proofs.Common.{◌≡◌, []}
use Rattle.ih_plan.specs.Presence.{is_present}
use Rattle.ih_plan.specs.Sums.{which_below}
use Rattle.ih_changes.proofs.differences.is_occupied.Given as goal

abbrev pub invariant-loop-person : goal.invariant-loop-person
invariant-loop-person l = which_below l.person (is_present l.inst.draft l.plan l.room.0 l.day) ≡ []
