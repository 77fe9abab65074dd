use Rattle.std.proofs.Common.{◌≡◌, ◌∷◌, [], ◌^◌, ◌∙◌, sym, ap, subst, arith, length}
use Rattle.std.proofs.lemmas.List.{nil_from_length}
use Rattle.ih_tables.specs.Bills.{add_bills}
use Rattle.ih_plan.specs.Writes.{put, put_all}
use Rattle.ih_plan.specs.Expand.{after}
use Rattle.ih_plan.specs.BillOf.{change_of_bill}
use Rattle.ih_plan.proofs.BillBounds.{change-within, within-more}
use Rattle.ih_plan.proofs.PlanRanges.{after-plan}
use Rattle.ih_plan.specs.Series.{AreMoves, after_all, price_of_all}
use Rattle.ih_plan.proofs.Series.{after_all-plan}
use Rattle.ih_costs.specs.CellLedgers.{timetable_of}
use Rattle.ih_plan.proofs.ChangeSums.{change-then}
use Rattle.ih_costs.proofs.RowLemmas.{alone, made-there, price-more, price-none, single-price}
use Rattle.ih_costs.proofs.StandLemmas.{kept, plan-fits, stands-own}
use Rattle.ih_costs.proofs.UndoLemmas.{taken-back}
use Rattle.ih_costs.proofs.row_prices.+change_by_row.Goals as goal

pub returns-in-Some-clause-stands : goal.returns-in-Some-clause-stands
returns-in-Some-clause-stands t c =
    taken-back c.in-Some.w.now c.put_for_now-undo.ensures.stands c.change_by_row-change.ensures.stands c.put_for_now-undo.ensures.undo c.put.ensures

pub returns-in-Some-clause-change : goal.returns-in-Some-clause-change
returns-in-Some-clause-change t c =
    let I = c.args.inst.now.draft in
    let P = timetable_of c.args.ledgers.now in
    let made = kept I (put c.in-Some.w.now P) c.put_for_now-undo.new.ledgers c.put_for_now-undo.ensures.stands in
    c.change_by_row-change.ensures.change
    ∙ (ap (λ Q. price_of_all I (put_all c.in-Some.rest.now Q) c.args.moves.now) made
    ∙ ap (λ ws. price_of_all I (put_all ws P) c.args.moves.now) (sym c.in-Some.ensures.cases.0))

pub returns-in-None-split_first-clause-change : goal.returns-in-None-split_first-clause-change
returns-in-None-split_first-clause-change t c =
    let none : c.args.moves.now ≡ [] = nil_from_length c.args.moves.now c.in-None-split_first.ensures.cases in
    c.zero.ensures ∙ price-none c.args.inst.now.draft _ c.args.moves.now none

-- the change of the first move, and of the others behind it
pub add-requires : goal.add-requires
add-requires t c =
    let I = c.args.inst.now.draft in
    let P = timetable_of c.args.ledgers.now in
    let m = c.in-Some-split_first.mv.now in
    let ms = c.in-Some-split_first.later.now in
    let L = c.price_of-here.new.ledgers in
    let valid = c.args.inst.now.valid in
    let plan = plan-fits I P c.args.ledgers.now c.requires.stands in
    let fits : AreMoves I (m ∷ ms) = subst (AreMoves I) c.in-Some-split_first.ensures.cases.0 c.requires.moves in
    let same : timetable_of L ≡ P = kept I P L c.price_of-here.ensures.stands in
    let made = made-there I m same (c.as_slice.ensures ∙ c.expand_here.ensures.made) in
    let further : c.change_by_row-further.result ≡ price_of_all I (after I P m) ms =
    c.change_by_row-further.ensures.change ∙ ap (λ Q. price_of_all I Q ms) made in
    rw (c.price_of-here.ensures.price, further, change-then I P (after I P m) (after_all I (after I P m) ms))
    (within-more (10 ^ 11) (10 ^ 12) (change_of_bill I P (after_all I (after I P m) ms)) (omega arith)
    (change-within I P (after_all I (after I P m) ms) valid plan (after_all-plan I (after I P m) ms (after-plan I P m plan fits.0) fits.1)))

pub returns-else-later-eq0-clause-change : goal.returns-else-later-eq0-clause-change
returns-else-later-eq0-clause-change t c =
    let I = c.args.inst.now.draft in
    let P = timetable_of c.args.ledgers.now in
    let m = c.in-Some-split_first.mv.now in
    let ms = c.in-Some-split_first.later.now in
    let L = c.price_of-here.new.ledgers in
    let none : c.args.before.now ≡ [] = nil_from_length c.args.before.now c.in-None.ensures.cases in
    let same : timetable_of L ≡ P = kept I P L c.price_of-here.ensures.stands in
    let made = made-there I m same (c.as_slice.ensures ∙ c.expand_here.ensures.made) in
    let further : c.change_by_row-further.result ≡ price_of_all I (after I P m) ms =
    c.change_by_row-further.ensures.change ∙ ap (λ Q. price_of_all I Q ms) made in
    c.add.ensures
    ∙ (ap (λ b. add_bills b c.change_by_row-further.result) c.price_of-here.ensures.price
    ∙ (ap (add_bills (change_of_bill I P (after I P m))) further
    ∙ (price-more I P m ms
    ∙ (ap (price_of_all I P) (sym c.in-Some-split_first.ensures.cases.0)
    ∙ ap (λ ws. price_of_all I (put_all ws P) c.args.moves.now) (sym none)))))

-- a last move isn't made
pub returns-then-later-eq0-clause-change : goal.returns-then-later-eq0-clause-change
returns-then-later-eq0-clause-change t c =
    let I = c.args.inst.now.draft in
    let P = timetable_of c.args.ledgers.now in
    let m = c.in-Some-split_first.mv.now in
    let none : c.args.before.now ≡ [] = nil_from_length c.args.before.now c.in-None.ensures.cases in
    c.price_of-here.ensures.price
    ∙ (single-price I P m c.args.moves.now (alone c.in-Some-split_first.ensures.cases.0 c.if-later-eq0.true)
    ∙ ap (λ ws. price_of_all I (put_all ws P) c.args.moves.now) (sym none))

pub change_by_row-further-requires : goal.change_by_row-further-requires
change_by_row-further-requires t c =
    let I = c.args.inst.now.draft in
    let P = timetable_of c.args.ledgers.now in
    let m = c.in-Some-split_first.mv.now in
    let L = c.price_of-here.new.ledgers in
    let fits : AreMoves I (m ∷ c.in-Some-split_first.later.now) = subst (AreMoves I) c.in-Some-split_first.ensures.cases.0 c.requires.moves in (
      omega (arith, c.expand_here.ensures.few, ap length c.as_slice.ensures, ap length c.in-Some-split_first.ensures.cases.0, c.decreases),
      (
        stands-own I P L c.price_of-here.ensures.stands,
        (rw c.as_slice.ensures c.expand_here.ensures.fits, fits.1),
      ),
    )
