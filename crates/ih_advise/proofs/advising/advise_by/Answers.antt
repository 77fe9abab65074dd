use Rattle.std.proofs.Common.{◌∙◌, refl, length}
use Rattle.std.proofs.lemmas.Result.{IfOk-weaker}
use Rattle.ih_advise.proofs.Places.{all-found}
use Rattle.ih_advise.proofs.advising.advise_by.Goals as goal

pub returns : goal.returns
returns g c =
    let F = c.args.scorer.now in
    IfOk-weaker c.gather.result _ _
    (λ v same. same ∙ all-found c.args.inst.now.draft F.hard F.plan c.args.choices.now
    (length c.args.findings.now) _ c.work.new.findings c.requires.some c.work.ensures refl)
    c.gather.ensures
