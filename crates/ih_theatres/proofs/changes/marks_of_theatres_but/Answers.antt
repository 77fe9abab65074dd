use Rattle.std.proofs.Common.{◌∙◌, ap}
use Rattle.std.specs.Prelude.{◌||◌, option_map}
use Rattle.ih_tables.specs.declared.ids.TheatreNo.{TheatreNo}
use Rattle.ih_links.specs.Lists.{list_of}
use Rattle.ih_links.proofs.Walks.{walk-inside, walk-shrinks, with-begins, with-goes_on, with-ends}
use Rattle.ih_plan.specs.Costs.{is_number}
use Rattle.ih_theatres.specs.Marks.{is_marked}
use Rattle.ih_theatres.proofs.MarkLemmas.{unmarked, met-more, met-without, other_theatre}
use Rattle.ih_theatres.proofs.changes.marks_of_theatres_but.Goals as goal

pub loop-at-init : goal.loop-at-init
loop-at-init c = rw c.first-at.ensures.first (with-begins c.args.links.now.nodes (list_of c.args.links.now c.args.head) c.first-at.ensures.nodes unmarked)

pub loop-at-smaller : goal.loop-at-smaller
loop-at-smaller c =
    walk-shrinks c.loop-at.invariant.walk c.in-Some.is (c.next-at.ensures.linked c.args.head (walk-inside c.loop-at.invariant.walk c.in-Some.is))

pub loop-at-preserved : goal.loop-at-preserved
loop-at-preserved c =
    with-goes_on c.loop-at.invariant c.in-Some.is (c.next-at.ensures.linked c.args.head (walk-inside c.loop-at.invariant.walk c.in-Some.is))
    (λ told met. met-more c.loop-at.used c.mark-used.result (other_theatre c.args.theatres.now c.args.patient.0) told c.in-Some.x met
    (λ t. c.mark-used.ensures t ∙ ap (λ o. is_marked c.loop-at.used t || is_number (option_map (λ (m : TheatreNo). m.0) o) t) c.theatre_but.ensures))

pub returns : goal.returns
returns c = λ t.
    with-ends c.loop-at.invariant c.in_default.is t ∙ met-without c.args.theatres.now c.args.patient.0 (list_of c.args.links.now c.args.head) t
