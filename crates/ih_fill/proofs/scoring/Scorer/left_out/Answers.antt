use Rattle.std.proofs.Common.{◌∙◌, ap, None}
use Rattle.ih_plan.specs.declared.moves.Write.{Write}
use Rattle.ih_plan.specs.declared.moves.Write.TheVariants.{SetStay}
use Rattle.ih_fill.specs.Fill.{write_score}
use Rattle.ih_fill.specs.Candidates.{valued}
use Rattle.ih_fill.specs.ScorerState.{ScorerState, view_of}
use Rattle.ih_fill.proofs.CandidateLemmas.{out-fits}
use Rattle.ih_fill.proofs.ValueLemmas.{stay-is}
use Rattle.ih_fill.proofs.scoring.Scorer.left_out.Goals as goal

pub valued-requires : goal.valued-requires
valued-requires c = let I = c.args.self.now.instance in out-fits I c.args.patient c.requires

pub returns : goal.returns
returns c =
    let F = c.args.self.now in
    let w : Write = SetStay c.args.patient None in
    c.valued.ensures ∙ (ap (λ (G : ScorerState). valued (write_score F.instance F.hard (view_of G.counts_uncovered) F.plan) w) c.self.view_is ∙ stay-is F w)
