use Rattle.std.proofs.Common.{refl, ◌≡◌, true, false}
use Rattle.ih_tables.specs.Works.{shift_of}
use Rattle.ih_tables.proofs.DistinctLemmas.{distinct_more, distinct_not, distinct_all}
use Rattle.ih_tables.proofs.validity.are_worked_once.Goals as goal

pub returns-then-works_shift : goal.returns-then-works_shift
returns-then-works_shift c =
    (λ t. absurd (let no : false ≡ true = t in cc), distinct_not shift_of _ c.loop-i.i _ _ c.loop-i-test.true c.shift_of.ensures (c.if-works_shift.ensures.0 refl))

pub loop-i-preserved : goal.loop-i-preserved
loop-i-preserved c =
    distinct_more shift_of _ c.loop-i.i _ _ c.loop-i-test.true c.shift_of.ensures c.if-works_shift.ensures.1 c.loop-i.invariant

pub returns : goal.returns
returns c = (λ t. distinct_all shift_of _ c.loop-i.i c.loop-i-test.false c.loop-i.invariant, λ all. refl)
