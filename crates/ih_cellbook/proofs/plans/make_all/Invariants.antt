use Rattle.std.proofs.Common.{◌≡◌, drop}
use Rattle.ih_plan.specs.Timetable.{IsPlanOf}
use Rattle.ih_plan.specs.Series.{after_all, AreMoves}
use Rattle.ih_cellbook.proofs.plans.make_all.Given as goal

abbrev pub invariant-loop-mv : goal.invariant-loop-mv
invariant-loop-mv l = record {
  fits : IsPlanOf l.inst.draft l.plan;
  rest : AreMoves l.inst.draft (drop l.mv-index l.moves);
  whole : after_all l.inst.draft l.plan (drop l.mv-index l.moves) ≡ after_all l.inst.draft l.initial.plan l.moves;
}
