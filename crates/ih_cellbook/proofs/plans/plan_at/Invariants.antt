use Rattle.std.proofs.Common.{◌≡◌, drop, map, take}
use Rattle.ih_plan.specs.Timetable.{IsPlanOf}
use Rattle.ih_journal.specs.History.{after_entries}
use Rattle.ih_cellbook.proofs.plans.plan_at.Given as goal

abbrev pub invariant-loop-entry : goal.invariant-loop-entry
invariant-loop-entry g l = record {
  fits : IsPlanOf l.inst.draft l.plan;
  rest : after_entries l.inst.draft l.plan (drop l.entry-index (take l.place (map g.E.Logged.tried l.entries)))
      ≡ after_entries l.inst.draft l.start (take l.place (map g.E.Logged.tried l.entries));
}
