use Rattle.std.proofs.Common.{◌≡◌, arith, sym}
use Rattle.ih_tables.specs.Sizes.{shift_count}
use Rattle.ih_plan.proofs.SumLemmas.{sum_below-more}
use Rattle.ih_bound.specs.Stays.{asked, number_at}
use Rattle.ih_bound.proofs.StayCare.{outside-none, none-before, none-behind, inside-number}
use Rattle.ih_bound.proofs.stays.total.Goals as goal

pub loop-k-init : goal.loop-k-init
loop-k-init c =
    let s = asked c.args.stay.now.skill.now c.args.stay.now.load.now c.args.stay.now.first c.args.stay.now.last in
    record {
      value = sym (none-before s (number_at c.args.numbers.now s) (outside-none c.args.numbers.now s));
      most = omega arith;
    }

pub loop-k-preserved : goal.loop-k-preserved
loop-k-preserved c =
    let s = asked c.args.stay.now.skill.now c.args.stay.now.load.now c.args.stay.now.first c.args.stay.now.last in
    let more = sum_below-more c.loop-k.k (number_at c.args.numbers.now s) in
    let here = inside-number c.args.numbers.now s c.loop-k.k (omega arith) (omega arith) in
    record {
      value = omega (arith, more, here, c.number-sum.ensures, c.loop-k.invariant.value);
      most = omega (arith, c.number-sum.ensures, c.loop-k.invariant.most);
    }

pub returns : goal.returns
returns c =
    let s = asked c.args.stay.now.skill.now c.args.stay.now.load.now c.args.stay.now.first c.args.stay.now.last in
    let f = number_at c.args.numbers.now s in
    let end : c.loop-k.k ≡ c.args.stay.now.last = omega arith in
    let all = none-behind s (shift_count c.args.inst.now.draft) f c.requires.horizon (outside-none c.args.numbers.now s) in
    rw all (rw end at c.loop-k.invariant.value)
