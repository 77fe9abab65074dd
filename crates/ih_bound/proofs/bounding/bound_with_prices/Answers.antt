use Rattle.std.proofs.Common.{◌*◌, arith}
use Rattle.ih_bound.proofs.CostWorth.{worth-cost}
use Rattle.ih_bound.proofs.bounding.bound_with_prices.Goals as goal

pub returns-clause-holds : goal.returns-clause-holds
returns-clause-holds g c = λ P feasible.
    let least = c.in_ok-best.ensures.value P feasible in
    worth-cost c.args.inst.now.draft c.args.inst.now.valid P c.weights-rates.result c.in_units.result.value c.weights-rates.ensures (omega (arith, c.in_units.ensures.value, least))
