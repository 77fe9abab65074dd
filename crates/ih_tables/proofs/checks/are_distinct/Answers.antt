use Rattle.std.proofs.Common.{refl, ◌≡◌, ◌∙◌, ap, true, false}
use Rattle.ih_tables.proofs.DistinctLemmas.{distinct_more, distinct_not, distinct_all}
use Rattle.ih_tables.proofs.checks.are_distinct.Goals as goal

pub returns-then-has_id : goal.returns-then-has_id
returns-then-has_id g c =
    let id = g.T.HasId.id in
    let is = c.id.ensures ∙ ap id c.index-items-i.is in
    (λ t. absurd (let no : false ≡ true = t in cc), distinct_not id _ c.loop-i.i c.index-items-i.result _ c.loop-i-test.true is (c.if-has_id.ensures.0 refl))

pub loop-i-preserved : goal.loop-i-preserved
loop-i-preserved g c =
    let id = g.T.HasId.id in
    let is = c.id.ensures ∙ ap id c.index-items-i.is in
    distinct_more id _ c.loop-i.i c.index-items-i.result _ c.loop-i-test.true is c.if-has_id.ensures.1 c.loop-i.invariant

pub returns : goal.returns
returns g c = (λ t. distinct_all g.T.HasId.id _ c.loop-i.i c.loop-i-test.false c.loop-i.invariant, λ all. refl)
