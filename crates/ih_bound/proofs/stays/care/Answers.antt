use Rattle.std.proofs.Common.{arith}
use Rattle.ih_bound.specs.Tariffs.{tariff_of}
use Rattle.ih_bound.specs.Stays.{asked}
use Rattle.ih_bound.proofs.StayCare.{stay-duality}
use Rattle.ih_bound.proofs.stays.care.Goals as goal

pub returns-then-spares_few : goal.returns-then-spares_few
returns-then-spares_few c = λ P x a r feasible of_x adm.
    let I = c.args.inst.now.draft in
    let s = asked c.args.stay.now.skill.now c.args.stay.now.load.now c.args.stay.now.first c.args.stay.now.last in
    let least = stay-duality I c.args.rates.now (tariff_of I c.args.rates.now c.args.prices.now) s c.as_slice-numbers.result.now c.args.inst.now.valid
    (c.spares_few.ensures c.if-spares_few.true) P x a r feasible of_x adm in
    omega (arith, c.total.ensures, least)
