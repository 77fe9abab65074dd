use Rattle.std.proofs.Common.{◌*◌, ◌∙◌, ap, sym}
use Rattle.ih_bound.specs.Tariffs.{tariff_of}
use Rattle.ih_bound.proofs.HintLemmas.{relief-surgeon}
use Rattle.ih_bound.proofs.hints.relief_of_surgeon.Goals as goal

pub returns : goal.returns
returns c =
    let I = c.args.inst.now.draft in
    ap (λ x. 60 * x) c.surgeon_price.ensures.value
    ∙ sym (relief-surgeon I c.args.rates.now (tariff_of I c.args.rates.now c.args.prices.now) c.args.surgeon c.args.day c.requires.known c.requires.day)
