use Rattle.std.proofs.Common.{arith, length}
use Rattle.ih_tables.specs.Sizes.{person_count}
use Rattle.ih_plan.specs.Sums.{sum_below}
use Rattle.ih_bound.specs.Tariffs.{tariff_of}
use Rattle.ih_bound.specs.Dealing.{dealt_paid}
use Rattle.ih_bound.proofs.DealtLemmas.{dealt-all}
use Rattle.ih_bound.proofs.HintLemmas.{income-whole}
use Rattle.ih_bound.proofs.Totals.{weak-duality}
use Rattle.ih_bound.proofs.evaluating.evaluate.Goals as goal

pub returns-clause-shows : goal.returns-clause-shows
returns-clause-shows g c = λ P feasible.
    let I = c.args.inst.now.draft in
    let t = tariff_of I c.args.rates.now c.args.prices.now in
    let n = length c.args.workers.now in
    let found = rw c.sum_all.ensures.count at
    (c.sum_of-paid.ensures (λ w. sum_below (person_count I) (dealt_paid I c.args.rates.now t P n w)) (λ k d inside. c.sum_all.ensures.least k d (omega (arith, inside, c.sum_all.ensures.count)) P feasible)) in
    let paid = dealt-all I c.args.rates.now t P n in
    omega (arith, found, paid, income-whole I c.args.rates.now t, c.income.ensures, c.saturating_sub.ensures)

pub returns-clause-least : goal.returns-clause-least
returns-clause-least g c = λ P feasible.
    let I = c.args.inst.now.draft in
    let t = tariff_of I c.args.rates.now c.args.prices.now in
    let n = length c.args.workers.now in
    let found = rw c.sum_all.ensures.count at
    (c.sum_of-paid.ensures (λ w. sum_below (person_count I) (dealt_paid I c.args.rates.now t P n w)) (λ k d inside. c.sum_all.ensures.least k d (omega (arith, inside, c.sum_all.ensures.count)) P feasible)) in
    let paid = dealt-all I c.args.rates.now t P n in
    let all = weak-duality I P c.args.inst.now.valid feasible c.args.rates.now t (λ n k. omega arith) in
    omega (arith, found, paid, all, c.income.ensures, c.saturating_sub.ensures)
