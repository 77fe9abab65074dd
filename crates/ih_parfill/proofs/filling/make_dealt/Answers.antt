use Rattle.std.proofs.Common.{◌≡◌, ◌∙◌, sym, ap, subst, true, false, Some, None}
use Rattle.ih_tables.specs.declared.drafts.Draft.{Draft}
use Rattle.ih_plan.specs.Timetable.{Timetable}
use Rattle.ih_plan.specs.Writes.{IsWriteOf}
use Rattle.ih_fill.specs.Candidates.{least_of}
use Rattle.ih_fill.specs.Choices.{candidates}
use Rattle.ih_fill.specs.Fill.{is_open, with_choice}
use Rattle.ih_fill.specs.ScorerState.{value_in}
use Rattle.ih_fill.proofs.PassLemmas.{choice-made, choice-closed}
use Rattle.ih_parfill.proofs.Least.{as-many, least-none, least-found}
use Rattle.ih_parfill.proofs.filling.make_dealt.Goals as goal

pub put-requires : goal.put-requires
put-requires g c =
    subst (λ (J : Draft). IsWriteOf J c.in-Some.best.candidate.write) (sym c.requires.instance)
    (c.in-Some.ensures _ _ _ (as-many _ _ _ _ _ c.deal.ensures)).fits

pub returns-in-Some-clause-made : goal.returns-in-Some-clause-made
returns-in-Some-clause-made g c =
    let F = c.args.scorer.now in
    let best = c.in-Some.best in
    let opened : is_open F.instance F.plan c.args.choice ≡ true = sym c.is_open.ensures ∙ c.if-is_open.true in
    let least : Some best.candidate ≡ least_of (value_in F c.args.choice) (candidates F.instance c.args.choice) =
    least-found (value_in F c.args.choice) _ best (c.in-Some.ensures _ _ _ (as-many _ _ _ _ _ c.deal.ensures)).least
    ∙ ap (λ (J : Draft). least_of (value_in F c.args.choice) (candidates J c.args.choice)) (sym c.requires.instance) in
    c.put.ensures
    ∙ ap (λ (Q : Timetable). record F { plan = Q })
    (choice-made F c.args.choice (Some best.candidate) c.requires.counts opened least ∙ ap (λ (J : Draft). with_choice J F.hard F.plan c.args.choice) c.requires.instance)

pub returns-in_default-clause-made : goal.returns-in_default-clause-made
returns-in_default-clause-made g c =
    let F = c.args.scorer.now in
    let opened : is_open F.instance F.plan c.args.choice ≡ true = sym c.is_open.ensures ∙ c.if-is_open.true in
    let least : None ≡ least_of (value_in F c.args.choice) (candidates F.instance c.args.choice) =
    least-none (value_in F c.args.choice) _ (c.in_default.ensures _ _ _ (as-many _ _ _ _ _ c.deal.ensures)).least
    ∙ ap (λ (J : Draft). least_of (value_in F c.args.choice) (candidates J c.args.choice)) (sym c.requires.instance) in
    ap (λ (Q : Timetable). record F { plan = Q })
    (choice-made F c.args.choice None c.requires.counts opened least ∙ ap (λ (J : Draft). with_choice J F.hard F.plan c.args.choice) c.requires.instance)

pub returns-else-is_open-clause-made : goal.returns-else-is_open-clause-made
returns-else-is_open-clause-made g c =
    let F = c.args.scorer.now in
    let closed : is_open F.instance F.plan c.args.choice ≡ false = sym c.is_open.ensures ∙ c.if-is_open.false in
    ap (λ (Q : Timetable). record F { plan = Q })
    (choice-closed F c.args.choice closed ∙ ap (λ (J : Draft). with_choice J F.hard F.plan c.args.choice) c.requires.instance)
