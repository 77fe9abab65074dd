use Rattle.std.proofs.Common.{◌<◌, ◌≡◌, ◌≤◌, ℕ, All, List, arith, length, subst, take, take_all}
use Rattle.std.proofs.lemmas.List.Elements.{Contains-get_or}
use Rattle.ih_improve.proofs.WeightLemmas.{greatest-more}
use Rattle.ih_improve.proofs.defaults.greatest_of.Goals as goal

pub loop-w-init : goal.loop-w-init
loop-w-init c = record { weight = Contains-get_or c.args.weights.now 0 0 (omega (arith, c.requires)); greatest = λ k d less. absurd (omega (arith, less)) }

pub loop-w-preserved : goal.loop-w-preserved
loop-w-preserved c =
    let more : c.loop-w.w-index < length c.args.weights.now = omega arith in
    greatest-more c.args.weights.now c.loop-w.w-index c.loop-w.greatest c.max-greatest.result more c.loop-w.invariant c.max-greatest.ensures

pub returns : goal.returns
returns c =
    let all : take c.loop-w.w-index c.args.weights.now ≡ c.args.weights.now = take_all _ _ (omega arith) in
    record { weight = c.loop-w.invariant.weight; greatest = subst (λ (xs : List ℕ). All (λ w. w ≤ c.loop-w.greatest) xs) all c.loop-w.invariant.greatest }
