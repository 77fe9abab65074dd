use Rattle.std.proofs.Common.{◌≡◌, ◌∙◌, sym, ap, subst}
use Rattle.std.proofs.lemmas.Result.{IfOk-weaker}
use Rattle.ih_plan.specs.Timetable.{IsPlanOf}
use Rattle.ih_fill.specs.ScorerState.{ScorerState}
use Rattle.ih_fill.proofs.PassLemmas.{fill-made}
use Rattle.ih_fill.proofs.filling.fill.Goals as goal

pub returns-clause-filled : goal.returns-clause-filled
returns-clause-filled c =
    let made = fill-made c.args.inst.now.draft c.args.hard c.args.plan.now c.in_ok-scorer.scorer c.make_all.new.scorer c.as_slice.result.now
    c.in_ok-scorer.ensures (c.as_slice.ensures.value ∙ c.in_ok-choices.ensures.all) c.make_all.ensures in
    IfOk-weaker c.try_clone.result _ _ (λ p same. same ∙ (c.plan.ensures.value ∙ made)) c.try_clone.ensures

pub returns-clause-fits : goal.returns-clause-fits
returns-clause-fits c =
    let end = c.make_all.new.scorer in
    let instance : end.instance ≡ c.args.inst.now.draft =
    ap (λ (f : ScorerState). f.instance) c.make_all.ensures ∙ ap (λ (f : ScorerState). f.instance) c.in_ok-scorer.ensures in
    let fits = subst (λ I. IsPlanOf I end.plan) instance c.plan.ensures.fits in
    IfOk-weaker c.try_clone.result _ _ (λ p same. subst (λ P. IsPlanOf c.args.inst.now.draft P) (sym (same ∙ c.plan.ensures.value)) fits) c.try_clone.ensures
