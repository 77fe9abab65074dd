use Rattle.std.proofs.Common.{◌≡◌, ◌≤◌, ◌-◌, ◌*◌, take, map}
use Rattle.std.specs.Prelude.{sum_by}
use Rattle.ih_plan.specs.Presence.{skill_of}
use Rattle.ih_validate.proofs.shifts.skill_below.Given as goal

abbrev pub invariant-loop-x : goal.invariant-loop-x
invariant-loop-x l = record {
  sum : l.sum ≡ sum_by (λ s. s - l.level) (map (skill_of l.inst.draft l.plan l.shift) (take l.x-index l.here));
  small : l.sum ≤ 1000 * l.x-index;
}
