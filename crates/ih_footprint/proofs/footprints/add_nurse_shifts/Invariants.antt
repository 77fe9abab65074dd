use Rattle.ih_footprint.specs.CellsState.{Gathers}
use Rattle.ih_footprint.specs.Pieces.{in_nurse_shifts}
use Rattle.ih_footprint.proofs.footprints.add_nurse_shifts.Given as goal

-- the shifts so far are gathered
abbrev pub invariant-loop-k : goal.invariant-loop-k
invariant-loop-k l = Gathers l.fn.out l.out (in_nurse_shifts l.plan l.room.0 l.from l.k)
