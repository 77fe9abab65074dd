use Rattle.ih_footprint.specs.CellsState.{Gathers}
use Rattle.std.proofs.Common.{take}
use Rattle.ih_footprint.specs.Pieces.{in_cares}
use Rattle.ih_footprint.proofs.footprints.add_cares.Given as goal

-- the persons so far are gathered
abbrev pub invariant-loop-i : goal.invariant-loop-i
invariant-loop-i g l = let persons = g.M.Members.persons in Gathers l.fn.out l.out (in_cares (take l.i (persons l.members l.room.0 l.day.0)))
