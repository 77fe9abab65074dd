use Rattle.std.proofs.Common.{◌<◌, ◌≡◌, ◌≤◌, ℕ, All, List, arith, length, subst, take, take_all, true}
use Rattle.ih_improve.specs.Defaults.{has_half}
use Rattle.ih_improve.proofs.WeightLemmas.{middle-more, middle-none}
use Rattle.ih_improve.proofs.defaults.middle_of.Goals as goal

pub loop-w-init : goal.loop-w-init
loop-w-init c = middle-none c.args.weights.now c.greatest_of-middle.result c.greatest_of-middle.ensures

pub loop-w-preserved : goal.loop-w-preserved
loop-w-preserved c =
    let more : c.loop-w.w-index < length c.args.weights.now = omega arith in
    middle-more c.args.weights.now c.loop-w.w-index c.loop-w.middle more c.loop-w.invariant c.lesser-middle.result c.lesser-middle.ensures

pub returns : goal.returns
returns c =
    let all : take c.loop-w.w-index c.args.weights.now ≡ c.args.weights.now = take_all _ _ (omega arith) in
    record { weight = c.loop-w.invariant.weight; half = c.loop-w.invariant.half; least = subst (λ (xs : List ℕ). All (λ w. has_half c.args.weights.now w ≡ true → c.loop-w.middle ≤ w) xs) all c.loop-w.invariant.least }
