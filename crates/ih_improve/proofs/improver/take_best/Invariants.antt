use Rattle.std.proofs.Common.{◌≡◌, map, take}
use Rattle.ih_plan.specs.Timetable.{IsPlanOf}
use Rattle.ih_improve.specs.Better.{best_of, standing_of}
use Rattle.ih_improve.specs.Keeping.{best_met}
use Rattle.ih_improve.proofs.improver.take_best.Given as goal

abbrev pub invariant-loop-worker : goal.invariant-loop-worker
invariant-loop-worker l = record {
  best : l.kept ≡ best_of l.measure l.fn.kept (map best_met (take l.worker-index l.workers));
  fits : IsPlanOf l.measure.instance l.kept;
  standing : l.standing ≡ standing_of l.measure l.kept;
}
