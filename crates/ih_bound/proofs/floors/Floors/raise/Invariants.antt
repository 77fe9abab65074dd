use Rattle.ih_bound.specs.Least.{AreFloors}
use Rattle.ih_bound.proofs.floors.Floors.raise.Given as goal

abbrev pub invariant-loop-i : goal.invariant-loop-i
invariant-loop-i l = AreFloors l.inst.draft l.rates l.self.list.items
