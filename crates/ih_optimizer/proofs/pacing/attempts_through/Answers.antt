use Rattle.std.proofs.Common.{◌*◌, ◌/◌, ◌≤◌, ◌<◌, arith}
use Rattle.std.proofs.lemmas.Nat.{div_below, mul-le}
use Rattle.ih_optimizer.proofs.pacing.attempts_through.Goals as goal

pub returns-clause-most : goal.returns-clause-most
returns-clause-most c =
    let a = c.args.attempts in
    let o = c.args.over in
    let r = c.args.rounds in
    let product : a * o ≤ 10000000000000000 = mul-le a o 1000000000000 10000 (omega (arith, c.requires.few)) (omega (arith, c.requires.few_rounds)) in
    let more : 10000000000000001 * 1 ≤ 10000000000000001 * r = mul-le 10000000000000001 1 10000000000000001 r (omega arith) (omega (arith, c.requires.some)) in
    let less : a * o < 10000000000000001 * r = omega (arith, product, more) in
    let below : a * o / r < 10000000000000001 = div_below (a * o) r 10000000000000001 (omega (arith, c.requires.some)) less in
    rw (c.from.ensures, c.from-2.ensures) (omega (arith, below))
