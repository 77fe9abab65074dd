use Rattle.std.proofs.Common.{◌∙◌, ap}
use Rattle.ih_tables.specs.declared.drafts.Draft.{Draft}
use Rattle.ih_plan.specs.Writes.{put}
use Rattle.ih_plan.specs.BillOf.{change_of_bill}
use Rattle.ih_fill.specs.ScorerState.{ScorerState}
use Rattle.ih_fill.proofs.scoring.Scorer.price.Goals as goal

pub returns : goal.returns
returns c =
    let here = c.self.inside in
    let w = c.args.write.now in
    c.price_write.ensures.price
    ∙ (ap (λ (I : Draft). change_of_bill I here.ledgers.plan (put w here.ledgers.plan)) c.self.invariant.of_instance
    ∙ ap (λ (G : ScorerState). change_of_bill G.instance G.plan (put w G.plan)) c.self.view_is)
