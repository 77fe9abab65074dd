use Rattle.std.proofs.Common.{◌≡◌}
use Rattle.std.specs.Prelude.{All}
use Rattle.ih_format.proofs.Items.{AreRead}
use Rattle.ih_solution.specs.Assigned.{IsFree}
use Rattle.ih_solution.specs.Reading.{has_nurse, free_room}
use Rattle.ih_solution.proofs.reader.nurses.Reader.each_room.Given as goal

abbrev pub invariant-loop-value : goal.invariant-loop-value
invariant-loop-value l = AreRead (λ _. free_room l.self.inst.now.draft (has_nurse l.self.plan.now) l.shift.0) l.at l.values l.value-index l.rooms.items
    × All (IsFree l.self.inst.now.draft l.self.plan.now l.shift.0) l.rooms.items
    × (l.i ≡ l.value-index)
