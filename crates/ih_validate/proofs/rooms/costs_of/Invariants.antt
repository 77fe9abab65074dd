use Rattle.std.proofs.Common.{◌*◌}
use Rattle.ih_validate.specs.Rooms.{gender_mix, crowding, age_mix, bare_shift, skill_gap}
use Rattle.ih_validate.proofs.Sums.{IsSum}
use Rattle.ih_validate.proofs.rooms.costs_of.Given as goal

abbrev pub invariant-loop-d : goal.invariant-loop-d
invariant-loop-d l = record {
  mixes : IsSum l.costs.gender_mixes l.d 1 (gender_mix l.inst.draft l.plan l.room.0);
  over : IsSum l.costs.over_capacity l.d 2560 (crowding l.inst.draft l.plan l.room.0);
  uncovered : IsSum l.costs.uncovered (3 * l.d) 1 (bare_shift l.inst.draft l.plan l.room.0);
  ages : IsSum l.costs.mixed_ages l.d 64 (age_mix l.inst.draft l.plan l.room.0);
  skills : IsSum l.costs.missing_skill (3 * l.d) 2560000 (skill_gap l.inst.draft l.plan l.room.0);
}
