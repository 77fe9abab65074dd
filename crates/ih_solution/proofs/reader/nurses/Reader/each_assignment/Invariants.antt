use Rattle.std.proofs.Common.{◌≡◌}
use Rattle.std.specs.Prelude.{All}
use Rattle.ih_format.proofs.Items.{AreRead}
use Rattle.ih_solution.specs.Assigned.{IsAssignment}
use Rattle.ih_solution.specs.Reading.{has_nurse, assignment}
use Rattle.ih_solution.proofs.reader.nurses.Reader.each_assignment.Given as goal

abbrev pub invariant-loop-value : goal.invariant-loop-value
invariant-loop-value l = AreRead (λ _. assignment l.self.inst.now.draft (has_nurse l.self.plan.now)) l.at l.values l.value-index l.given.items
    × All (IsAssignment l.self.inst.now.draft l.self.plan.now) l.given.items
    × (l.i ≡ l.value-index)
