use Rattle.std.proofs.Common.{arith}
use Rattle.ih_bound.proofs.CostWorth.{weight-most}
use Rattle.ih_bound.proofs.prices.rate.Goals as goal

pub overflow_mul-result : goal.overflow_mul-result
overflow_mul-result c = omega (arith, c.weight.ensures, weight-most c.args.inst.now.draft c.args.inst.now.valid c.args.index)

pub returns-clause-bound : goal.returns-clause-bound
returns-clause-bound c = omega (arith, c.weight.ensures, weight-most c.args.inst.now.draft c.args.inst.now.valid c.args.index)
