use Rattle.std.proofs.Common.{rules, ◌∙◌, ap, true, false}
use Rattle.std.proofs.lemmas.Int.{to_z-of_z}
use Rattle.std.specs.Int.{w64}
use Rattle.std.specs.Prelude.{FitsSigned}
use Rattle.ih_tables.specs.Bills.{score}
use Rattle.ih_fill.proofs.ValueLemmas.{score-is}
use Rattle.ih_fill.proofs.scoring.Scorer.score.Goals as goal

pub returns-then-counts_uncovered : goal.returns-then-counts_uncovered
returns-then-counts_uncovered c =
    let here = c.self.inside in
    let fits : FitsSigned w64 c.score_of.result = search rules in
    rw (c.if-counts_uncovered.true, to_z-of_z w64 c.score_of.result fits)
    (c.score_of.ensures.score
    ∙ score-is c.args.self.now here.inst.now.draft here.ledgers here.hard here.counts_uncovered true c.args.write.now
    c.price_write-price.result c.self.view_is c.self.invariant.of_instance c.price_write-price.ensures.price)

pub returns-else-counts_uncovered : goal.returns-else-counts_uncovered
returns-else-counts_uncovered c =
    let here = c.self.inside in
    let fits : FitsSigned w64 c.score_of-else-counts_uncovered.result = search rules in
    rw (c.if-counts_uncovered.false, to_z-of_z w64 c.score_of-else-counts_uncovered.result fits)
    (c.score_of-else-counts_uncovered.ensures.score ∙ ap (score here.hard here.inst.now.draft.weights) c.without_uncovered.ensures.value
    ∙ score-is c.args.self.now here.inst.now.draft here.ledgers here.hard here.counts_uncovered false c.args.write.now
    c.price_write-price.result c.self.view_is c.self.invariant.of_instance c.price_write-price.ensures.price)
