use Rattle.std.specs.Prelude.{IfSome}
use Rattle.ih_plan.specs.Timetable.{IsPlacement}
use Rattle.ih_proposals.proofs.best_place.cheapest_place.Given as goal

abbrev pub invariant-loop-i : goal.invariant-loop-i
invariant-loop-i l = IfSome l.best (IsPlacement l.here.inst.now.draft)
