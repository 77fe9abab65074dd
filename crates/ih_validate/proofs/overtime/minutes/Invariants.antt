use Rattle.std.proofs.Common.{◌≡◌, ◌≤◌, ◌*◌, take}
use Rattle.std.specs.Prelude.{sum_by}
use Rattle.ih_plan.specs.Costs.{duration_of}
use Rattle.ih_validate.proofs.overtime.minutes.Given as goal

abbrev pub invariant-loop-p : goal.invariant-loop-p
invariant-loop-p l = (l.sum ≡ sum_by (duration_of l.inst.draft) (take l.p-index l.patients)) × (l.sum ≤ 4294967296 * l.p-index)
