use Rattle.std.proofs.Common.{ℕ, ◌+◌, ◌-◌, ◌*◌, ◌∙◌, ap, ap₂, sym}
use Rattle.ih_plan.specs.Costs.{theatre_availability}
use Rattle.ih_bound.specs.Tariffs.{tariff_of}
use Rattle.ih_bound.proofs.HintLemmas.{relief-theatre}
use Rattle.ih_bound.proofs.hints.relief_of_theatre.Goals as goal

pub returns : goal.returns
returns c =
    let I = c.args.inst.now.draft in
    let o = c.args.rates.now.theatre in
    let p = (tariff_of I c.args.rates.now c.args.prices.now).theatre c.args.theatre.0 c.args.day in
    let m = theatre_availability I c.args.theatre.0 c.args.day in
    c.more_above.ensures
    ∙ ap₂ (λ (p m : ℕ). p * (m + 60) + c.all_shares.result - o - (p * m + c.all_shares.result - o)) c.theatre_price.ensures.value c.limit_of.ensures
    ∙ ap (λ (s : ℕ). p * (m + 60) + s - o - (p * m + s - o)) c.all_shares.ensures
    ∙ sym (relief-theatre I c.args.rates.now (tariff_of I c.args.rates.now c.args.prices.now) c.args.theatre c.args.day c.requires.known c.requires.day)
