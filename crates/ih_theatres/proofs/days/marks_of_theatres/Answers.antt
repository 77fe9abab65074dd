use Rattle.ih_links.specs.Lists.{list_of}
use Rattle.ih_links.proofs.Walks.{walk-inside, walk-shrinks, with-begins, with-goes_on, with-ends}
use Rattle.ih_theatres.specs.Days.{theatre_at}
use Rattle.ih_theatres.proofs.MarkLemmas.{unmarked, met-more}
use Rattle.ih_theatres.proofs.days.marks_of_theatres.Goals as goal

pub loop-at-init : goal.loop-at-init
loop-at-init c = rw c.first-at.ensures.first (with-begins c.args.links.now.nodes (list_of c.args.links.now c.args.head) c.first-at.ensures.nodes unmarked)

pub loop-at-smaller : goal.loop-at-smaller
loop-at-smaller c =
    walk-shrinks c.loop-at.invariant.walk c.in-Some.is (c.next-at.ensures.linked c.args.head (walk-inside c.loop-at.invariant.walk c.in-Some.is))

pub loop-at-preserved : goal.loop-at-preserved
loop-at-preserved c =
    with-goes_on c.loop-at.invariant c.in-Some.is (c.next-at.ensures.linked c.args.head (walk-inside c.loop-at.invariant.walk c.in-Some.is))
    (λ told met. met-more c.loop-at.used c.mark-used.result (theatre_at c.args.theatres.now) told c.in-Some.p met c.mark-used.ensures)

pub returns : goal.returns
returns c = with-ends c.loop-at.invariant c.in_default.is
