use Rattle.std.proofs.Common.{◌∙◌, sym, ap, length}
use Rattle.std.specs.Prelude.{filter_map}
use Rattle.std.specs.Int.{div_ceil}
use Rattle.std.proofs.lemmas.Result.{IfOk-weaker}
use Rattle.ih_fill.specs.ScorerState.{ScorerState}
use Rattle.ih_advise.specs.Advising.{advice_on}
use Rattle.ih_advise.proofs.Places.{all-ready}
use Rattle.ih_advise.proofs.advising.advise.Goals as goal

pub advise_by-requires-clause-ready : goal.advise_by-requires-clause-ready
advise_by-requires-clause-ready g c κs within =
    let choices = c.in_ok-choices.choices.items in
    let count = c.len.ensures ∙ (sym c.as_slice.ensures.len ∙ ap length c.as_slice.ensures.value) in
    rw (c.as_mut_slice.ensures.value, c.as_slice.ensures.value)
    (all-ready (length choices) c.args.workers c.div_ceil-most.result c.in_ok-findings.findings.items c.requires.some (c.div_ceil-most.ensures ∙ ap (λ n. div_ceil n c.args.workers) count)
    c.in_ok-findings.ensures.len c.in_ok-findings.ensures.ready)

pub returns : goal.returns
returns g c =
    let I = c.args.inst.now.draft in
    IfOk-weaker c.advise_by.result _ _
    (λ v same. same
    ∙ (ap (λ (F : ScorerState). filter_map (advice_on I F.hard F.plan) c.as_slice.result.now) c.in_ok-scorer.ensures
    ∙ ap (filter_map (advice_on I c.args.hard c.args.plan.now)) (c.as_slice.ensures.value ∙ c.in_ok-choices.ensures.all)))
    c.advise_by.ensures
