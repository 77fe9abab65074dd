use Rattle.std.proofs.Common.{◌≡◌, ◌∙◌, sym, ap, true, false, Some, None}
use Rattle.ih_tables.specs.declared.drafts.Draft.{Draft}
use Rattle.ih_plan.specs.Timetable.{Timetable}
use Rattle.ih_fill.specs.Candidates.{least_of}
use Rattle.ih_fill.specs.Choices.{candidates}
use Rattle.ih_fill.specs.Fill.{is_open, with_choice}
use Rattle.ih_fill.specs.ScorerState.{value_in}
use Rattle.ih_fill.proofs.PassLemmas.{choice-made, choice-closed}
use Rattle.ih_fill.proofs.making.make_choice.Goals as goal

pub returns-in-Some : goal.returns-in-Some
returns-in-Some c =
    let F = c.args.scorer.now in
    let opened : is_open F.instance F.plan c.args.choice ≡ true = sym c.is_open.ensures ∙ c.if-is_open.true in
    let least : Some c.in-Some.best ≡ least_of (value_in F c.args.choice) (candidates F.instance c.args.choice) =
    sym c.in-Some.is ∙ (c.cheapest_candidate.ensures.least ∙ ap (λ (I : Draft). least_of (value_in F c.args.choice) (candidates I c.args.choice)) (sym c.requires.instance)) in
    c.put.ensures
    ∙ ap (λ (Q : Timetable). record F { plan = Q })
    (choice-made F c.args.choice (Some c.in-Some.best) c.requires.counts opened least ∙ ap (λ (I : Draft). with_choice I F.hard F.plan c.args.choice) c.requires.instance)

pub returns-in_default : goal.returns-in_default
returns-in_default c =
    let F = c.args.scorer.now in
    let opened : is_open F.instance F.plan c.args.choice ≡ true = sym c.is_open.ensures ∙ c.if-is_open.true in
    let least : None ≡ least_of (value_in F c.args.choice) (candidates F.instance c.args.choice) =
    sym c.in_default.is ∙ (c.cheapest_candidate.ensures.least ∙ ap (λ (I : Draft). least_of (value_in F c.args.choice) (candidates I c.args.choice)) (sym c.requires.instance)) in
    ap (λ (Q : Timetable). record F { plan = Q })
    (choice-made F c.args.choice None c.requires.counts opened least ∙ ap (λ (I : Draft). with_choice I F.hard F.plan c.args.choice) c.requires.instance)

pub returns-else-is_open : goal.returns-else-is_open
returns-else-is_open c =
    let F = c.args.scorer.now in
    let closed : is_open F.instance F.plan c.args.choice ≡ false = sym c.is_open.ensures ∙ c.if-is_open.false in
    ap (λ (Q : Timetable). record F { plan = Q })
    (choice-closed F c.args.choice closed ∙ ap (λ (I : Draft). with_choice I F.hard F.plan c.args.choice) c.requires.instance)
