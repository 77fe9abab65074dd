use Rattle.std.proofs.Common.{arith}
use Rattle.ih_bound.proofs.CostWorth.{worth-none}
use Rattle.ih_bound.proofs.bounding.refute.Goals as goal

pub returns : goal.returns
returns g c = λ P feasible.
    let r = c.none.ensures in
    let nothing = worth-none c.args.inst.now.draft P c.none.result r.0 r.1 r.2 r.3 r.4 r.5 in
    let least = c.in_ok-none.ensures.value P feasible in
    omega (arith, nothing, least, c.if-none-eq0.false)
