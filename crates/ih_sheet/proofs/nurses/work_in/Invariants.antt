use Rattle.std.proofs.Common.{◌≡◌, ◌≤◌, ◌*◌}
use Rattle.std.specs.Prelude.{if◌then◌else◌}
use Rattle.ih_plan.specs.Presence.{day_of, is_present, workload_of}
use Rattle.ih_plan.specs.Sums.{sum_below}
use Rattle.ih_sheet.proofs.nurses.work_in.Given as goal

abbrev pub invariant-loop-x : goal.invariant-loop-x
invariant-loop-x l = record {
  sum : l.work ≡ sum_below l.x (λ x. if is_present l.shown.inst.now.draft l.shown.plan.now l.room.0 (day_of l.shift.0) x
      then workload_of l.shown.inst.now.draft l.shown.plan.now l.shift.0 x else 0);
  bound : l.work ≤ 100000 * l.x;
}
