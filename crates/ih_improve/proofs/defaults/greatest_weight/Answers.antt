use Rattle.std.proofs.Common.{◌≤◌, Contains, List, arith, subst, ℕ}
use Rattle.ih_improve.specs.Defaults.{IsGreatest}
use Rattle.ih_improve.proofs.WeightLemmas.{weight-most}
use Rattle.ih_improve.proofs.defaults.greatest_weight.Goals as goal

pub overflow_cast-result : goal.overflow_cast-result
overflow_cast-result c =
    let weight = subst (λ (ws : List ℕ). Contains ws c.greatest_of.result) c.weights_of-weights.ensures c.greatest_of.ensures.weight in
    let most : c.greatest_of.result ≤ 100000 = weight-most c.args.inst.now.draft c.args.inst.now.valid c.greatest_of.result weight in
    omega arith

pub returns-clause-is : goal.returns-clause-is
returns-clause-is c = subst (λ (ws : List ℕ). IsGreatest ws c.greatest_of.result) c.weights_of-weights.ensures c.greatest_of.ensures

pub returns-clause-most : goal.returns-clause-most
returns-clause-most c =
    let weight = subst (λ (ws : List ℕ). Contains ws c.greatest_of.result) c.weights_of-weights.ensures c.greatest_of.ensures.weight in
    weight-most c.args.inst.now.draft c.args.inst.now.valid c.greatest_of.result weight
