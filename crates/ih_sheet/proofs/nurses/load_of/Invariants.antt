use Rattle.std.proofs.Common.{◌≡◌, ◌≤◌, ◌*◌}
use Rattle.std.specs.Prelude.{if◌then◌else◌, sum_by}
use Rattle.ih_plan.specs.Costs.{is_number}
use Rattle.ih_plan.specs.Presence.{day_of, present, workload_of}
use Rattle.ih_plan.specs.Sums.{sum_below}
use Rattle.ih_plan.specs.Timetable.{care_of}
use Rattle.ih_sheet.proofs.nurses.load_of.Given as goal

abbrev pub invariant-loop-r : goal.invariant-loop-r
invariant-loop-r l = record {
  sum : l.load ≡ sum_below l.r (λ r. if is_number (care_of l.shown.plan.now r l.shift.0) l.nurse.0
      then sum_by (workload_of l.shown.inst.now.draft l.shown.plan.now l.shift.0)
      (present l.shown.inst.now.draft l.shown.plan.now r (day_of l.shift.0)) else 0);
  bound : l.load ≤ 256000000 * l.r;
}
