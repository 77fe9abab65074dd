use Rattle.std.proofs.Common.{◌≡◌, ◌≤◌}
use Rattle.ih_plan.specs.Sums.{sum_below}
use Rattle.ih_plan.specs.Timetable.{Timetable}
use Rattle.ih_bound.specs.Bounds.{IsFeasible}
use Rattle.ih_bound.specs.Tariffs.{tariff_of}
use Rattle.ih_bound.specs.Dealing.{dealt_paid}
use Rattle.ih_bound.proofs.dealing.BoundWorker.sum_dealt.Given as goal

abbrev pub invariant-loop-x : goal.invariant-loop-x
invariant-loop-x l = record {
  floors : l.self.floors ≡ l.fn.self.floors;
  sum : (P : Timetable) → IsFeasible l.inst.draft P
      → l.sum ≤ sum_below l.x (dealt_paid l.inst.draft l.rates (tariff_of l.inst.draft l.rates l.prices) P l.workers l.worker);
}
