use Rattle.std.proofs.Common.{◌∙◌, sym}
use Rattle.ih_bound.specs.Tariffs.{tariff_of}
use Rattle.ih_bound.proofs.HintLemmas.{relief-beds}
use Rattle.ih_bound.proofs.hints.relief_of_beds.Goals as goal

pub returns : goal.returns
returns c =
    let I = c.args.inst.now.draft in
    c.bed_on.ensures ∙ sym (relief-beds I c.args.rates.now (tariff_of I c.args.rates.now c.args.prices.now) c.args.day c.requires)
