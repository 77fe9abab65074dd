use Rattle.std.proofs.Common.{◌+◌, ◌∙◌, ap}
use Rattle.std.specs.Prelude.{option_map}
use Rattle.ih_plan.specs.declared.moves.Placement.{Placement}
use Rattle.ih_plan.specs.Sums.{bit, count_below}
use Rattle.ih_theatres.specs.Marks.{is_marked}
use Rattle.ih_theatres.proofs.OtherPatients.{count-more, theatre-inside}
use Rattle.ih_theatres.proofs.changes.theatres_with.Goals as goal

pub returns-clause-count : goal.returns-clause-count
returns-clause-count c = λ n few none inside.
    let theatre = option_map (λ (at : Placement). at.theatre.0) c.args.stay in
    ap (λ k. k + c.bit.result) (c.count_marked.ensures.count n few none)
    ∙ (ap (λ k. count_below n (is_marked c.args.marks) + k) (c.bit.ensures.value ∙ ap bit c.is_one_more.ensures)
    ∙ count-more n c.args.marks c.args.there theatre (theatre-inside n c.args.stay inside))
