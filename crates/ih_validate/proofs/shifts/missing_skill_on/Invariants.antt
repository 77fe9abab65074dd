use Rattle.std.proofs.Common.{◌+◌, ◌*◌}
use Rattle.ih_validate.specs.Rooms.{skill_gap}
use Rattle.ih_validate.proofs.Sums.{IsSum}
use Rattle.ih_validate.proofs.shifts.missing_skill_on.Given as goal

abbrev pub invariant-loop-j : goal.invariant-loop-j
invariant-loop-j l = IsSum l.sum l.j 2560000 (λ j. skill_gap l.inst.draft l.plan l.room.0 (3 * l.day + j))
