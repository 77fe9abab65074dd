use Rattle.std.proofs.Common.{◌≡◌, arith}
use Rattle.ih_tables.specs.Sizes.{shift_count}
use Rattle.ih_plan.proofs.SumLemmas.{sum_below-more}
use Rattle.ih_bound.specs.Tariffs.{tariff_of}
use Rattle.ih_bound.specs.Stays.{asked, spared_in}
use Rattle.ih_bound.proofs.StayCare.{outside-spared, none-before, none-behind}
use Rattle.ih_bound.proofs.stays.spared.Goals as goal

pub loop-k-init : goal.loop-k-init
loop-k-init c =
    let I = c.args.inst.now.draft in
    let t = tariff_of I c.args.rates.now c.args.prices.now in
    let s = asked c.args.stay.now.skill.now c.args.stay.now.load.now c.args.stay.now.first c.args.stay.now.last in
    let none = none-before s (spared_in I c.args.rates.now t s c.args.numbers.now c.args.nurse.0) (outside-spared I c.args.rates.now t s c.args.numbers.now c.args.nurse.0) in
    record { least = omega (arith, none); most = omega arith }

pub loop-k-preserved : goal.loop-k-preserved
loop-k-preserved c =
    let I = c.args.inst.now.draft in
    let t = tariff_of I c.args.rates.now c.args.prices.now in
    let s = asked c.args.stay.now.skill.now c.args.stay.now.load.now c.args.stay.now.first c.args.stay.now.last in
    let more = sum_below-more c.loop-k.k (spared_in I c.args.rates.now t s c.args.numbers.now c.args.nurse.0) in
    record {
      least = omega (arith, more, c.spared_in-sum.ensures.least, c.loop-k.invariant.least);
      most = omega (arith, c.spared_in-sum.ensures.most, c.loop-k.invariant.most);
    }

pub returns : goal.returns
returns c =
    let I = c.args.inst.now.draft in
    let t = tariff_of I c.args.rates.now c.args.prices.now in
    let s = asked c.args.stay.now.skill.now c.args.stay.now.load.now c.args.stay.now.first c.args.stay.now.last in
    let end : c.loop-k.k ≡ c.args.stay.now.last = omega arith in
    let all = none-behind s (shift_count I) (spared_in I c.args.rates.now t s c.args.numbers.now c.args.nurse.0) c.requires.horizon (outside-spared I c.args.rates.now t s c.args.numbers.now c.args.nurse.0) in
    rw all (rw end at c.loop-k.invariant.least)
