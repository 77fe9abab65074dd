use Rattle.std.proofs.Common.{◌≡◌, arith}
use Rattle.std.specs.Prelude.{max}
use Rattle.std.proofs.lemmas.Grind.{common_steps}
use Rattle.ih_validate.proofs.AgeLemmas.{are_ages-none, are_ages-more}
use Rattle.ih_validate.proofs.days.age_spread.Goals as goal

pub loop-x-init : goal.loop-x-init
loop-x-init c = record { small = omega arith; ages = are_ages-none c.args.inst.now.draft c.args.here.now }

pub loop-x-preserved : goal.loop-x-preserved
loop-x-preserved c =
    let raised : c.max-high.result ≡ max c.loop-x.high c.age_group-age.result = grind (arith, common_steps) in
    record {
      small = omega (arith, c.loop-x.invariant.small, c.age_group-age.ensures.bound);
      ages = are_ages-more c.age_group-age.result c.lower-low.result c.max-high.result c.loop-x.invariant.ages c.loop-x-test.true c.age_group-age.ensures.value c.lower-low.ensures raised;
    }
