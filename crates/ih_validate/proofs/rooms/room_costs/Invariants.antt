use Rattle.ih_tables.specs.Sizes.{shift_count}
use Rattle.ih_plan.specs.Sums.{sum_below}
use Rattle.ih_validate.specs.Rooms.{gender_mix, crowding, age_mix, bare_shift, skill_gap}
use Rattle.ih_validate.proofs.Sums.{IsSum}
use Rattle.ih_validate.proofs.rooms.room_costs.Given as goal

abbrev pub invariant-loop-r : goal.invariant-loop-r
invariant-loop-r l = record {
  mixes : IsSum l.costs.gender_mixes l.r 56 (λ r. sum_below l.inst.draft.days (gender_mix l.inst.draft l.plan r));
  over : IsSum l.costs.over_capacity l.r 143360 (λ r. sum_below l.inst.draft.days (crowding l.inst.draft l.plan r));
  uncovered : IsSum l.costs.uncovered l.r 168 (λ r. sum_below (shift_count l.inst.draft) (bare_shift l.inst.draft l.plan r));
  ages : IsSum l.costs.mixed_ages l.r 3584 (λ r. sum_below l.inst.draft.days (age_mix l.inst.draft l.plan r));
  skills : IsSum l.costs.missing_skill l.r 430080000 (λ r. sum_below (shift_count l.inst.draft) (skill_gap l.inst.draft l.plan r));
}
