use Rattle.std.proofs.Common.{◌≡◌, ◌∙◌, ◌<◌, arith, refl}
use Rattle.std.proofs.lemmas.List.Elements.{All-same}
use Rattle.ih_tables.specs.Sizes.{person_count}
use Rattle.ih_plan.specs.Presence.{present}
use Rattle.ih_plan.proofs.TestLemmas.{bit-most}
use Rattle.ih_validate.specs.Rooms.{gender_mix, crowding, age_mix, bare_shift, skill_gap}
use Rattle.ih_validate.proofs.Sums.{is_sum-none, is_sum-more, is_sum-day}
use Rattle.ih_validate.proofs.ListLemmas.{present-persons}
use Rattle.ih_validate.proofs.rooms.costs_of.Goals as goal

pub loop-d-init : goal.loop-d-init
loop-d-init c = rw c.nothing-costs.ensures (record {
  mixes = is_sum-none 1 (gender_mix c.args.inst.now.draft c.args.plan.now c.args.room.0);
  over = is_sum-none 2560 (crowding c.args.inst.now.draft c.args.plan.now c.args.room.0);
  uncovered = is_sum-none 1 (bare_shift c.args.inst.now.draft c.args.plan.now c.args.room.0);
  ages = is_sum-none 64 (age_mix c.args.inst.now.draft c.args.plan.now c.args.room.0);
  skills = is_sum-none 2560000 (skill_gap c.args.inst.now.draft c.args.plan.now c.args.room.0);
})

pub genders_differ-requires : goal.genders_differ-requires
genders_differ-requires c =
    All-same (λ x. x < person_count c.args.inst.now.draft) c.as_slice-here.result.now (present c.args.inst.now.draft c.args.plan.now c.args.room.0 c.loop-d.d)
    (c.as_slice-here.ensures.value ∙ c.list_present.ensures)
    (present-persons c.args.inst.now.draft c.args.plan.now c.args.room.0 c.loop-d.d)

pub age_spread-requires : goal.age_spread-requires
age_spread-requires c =
    All-same (λ x. x < person_count c.args.inst.now.draft) c.as_slice-here.result.now (present c.args.inst.now.draft c.args.plan.now c.args.room.0 c.loop-d.d)
    (c.as_slice-here.ensures.value ∙ c.list_present.ensures)
    (present-persons c.args.inst.now.draft c.args.plan.now c.args.room.0 c.loop-d.d)

pub loop-d-preserved : goal.loop-d-preserved
loop-d-preserved c =
    let here : c.as_slice-here.result.now ≡ present c.args.inst.now.draft c.args.plan.now c.args.room.0 c.loop-d.d = c.as_slice-here.ensures.value ∙ c.list_present.ensures in
    record {
      mixes = is_sum-more c.bit.result c.loop-d.invariant.mixes (c.bit.ensures ∙ rw (c.genders_differ.ensures, here) refl) (rw c.bit.ensures (bit-most c.genders_differ.result));
      over =
          is_sum-more c.saturating_sub.result c.loop-d.invariant.over (c.saturating_sub.ensures ∙ rw (here, c.room.ensures) refl)
          (omega (arith, c.saturating_sub.ensures, c.as_slice-here.ensures.few));
      uncovered = is_sum-day c.loop-d.d c.uncovered_on.result c.loop-d.invariant.uncovered c.uncovered_on.ensures.sum c.uncovered_on.ensures.bound;
      ages = is_sum-more c.age_spread.result c.loop-d.invariant.ages (c.age_spread.ensures.value ∙ rw here refl) c.age_spread.ensures.bound;
      skills = is_sum-day c.loop-d.d c.missing_skill_on.result c.loop-d.invariant.skills c.missing_skill_on.ensures.sum c.missing_skill_on.ensures.bound;
    }
