use Rattle.std.proofs.Common.{◌≡◌, drop}
use Rattle.ih_plan.specs.Timetable.{IsPlanOf}
use Rattle.ih_plan.specs.Writes.{put_all, AreWritesOf}
use Rattle.ih_cellbook.proofs.plans.put_all.Given as goal

abbrev pub invariant-loop-w : goal.invariant-loop-w
invariant-loop-w l = record {
  fits : IsPlanOf l.inst.draft l.plan;
  rest : AreWritesOf l.inst.draft (drop l.w-index l.writes);
  whole : put_all (drop l.w-index l.writes) l.plan ≡ put_all l.writes l.initial.plan;
}
