use Rattle.std.proofs.Common.{◌≡◌, ◌∙◌, sym, ap, None}
use Rattle.std.specs.Prelude.{ℤ}
use Rattle.ih_tables.specs.declared.drafts.Draft.{Draft}
use Rattle.ih_plan.specs.declared.moves.Write.{Write}
use Rattle.ih_plan.specs.declared.moves.Write.TheVariants.{SetStay}
use Rattle.ih_fill.specs.declared.candidates.Candidate.{Candidate}
use Rattle.ih_fill.specs.Candidates.{cheapest, stay_writes, valued}
use Rattle.ih_fill.specs.ScorerState.{stay_value}
use Rattle.ih_fill.specs.declared.choices.Choice.{Choice}
use Rattle.ih_replacements.specs.Replacements.{best_of, best_write, value_of}
use Rattle.ih_replacements.proofs.Choices.{stay-whole}
use Rattle.ih_replacements.proofs.replacing.best_replacement.Goals as goal

pub returns-in-Stay-clause-best : goal.returns-in-Stay-clause-best
unfolding best_write
returns-in-Stay-clause-best c =
    let I = c.args.inst.now.draft in
    let F = c.args.scorer.now in
    let p = c.in-Stay.p in
    let v = value_of I F.hard F.plan in
    let ws = stay_writes I p.0 in
    let same : stay_value F ≡ v = stay-whole F c.requires.counts ∙ ap (λ (J : Draft). value_of J F.hard F.plan) c.requires.instance in
    c.cheapest_stay.ensures.least
    ∙ (ap (λ (x : Candidate). valued (stay_value F) (cheapest (stay_value F) x.write ws)) c.left_out-out.ensures
    ∙ (ap (λ (f : Write → ℤ). valued f (cheapest f (SetStay p None) ws)) same
    ∙ ap (λ (s : Choice). best_of I F.hard F.plan s) (sym c.in-Stay.is)))
