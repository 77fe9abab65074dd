use Rattle.std.proofs.Common.{◌≡◌, [], ◌∙◌, sym, ap, subst, List}
use Rattle.std.proofs.lemmas.List.{nil_from_length}
use Rattle.ih_plan.specs.declared.moves.Move.{Move}
use Rattle.ih_plan.specs.Writes.{put_all}
use Rattle.ih_plan.specs.Expand.{after, expand}
use Rattle.ih_footprint.specs.CellsState.{Gathers}
use Rattle.ih_plan.specs.Series.{after_all, all_touch}
use Rattle.ih_costs.specs.CellLedgers.{AreLedgersOf, timetable_of}
use Rattle.ih_costs.proofs.RowLemmas.{after-none, after-more, gathers-no-moves, gathers-more-moves}
use Rattle.ih_costs.proofs.StandLemmas.{kept}
use Rattle.ih_costs.proofs.series.+play_in_row_noting.Goals as goal

pub returns-in-None-clause-stands : goal.returns-in-None-clause-stands
returns-in-None-clause-stands t c =
    let none : c.args.moves.now ≡ [] = nil_from_length c.args.moves.now c.in-None.ensures.cases in
    subst (λ Q. AreLedgersOf c.args.inst.now.draft Q c.args.ledgers.now)
    (after-none c.args.inst.now.draft (timetable_of c.args.ledgers.now) c.args.moves.now none) c.requires.stands

pub returns-in-None-clause-gathers : goal.returns-in-None-clause-gathers
returns-in-None-clause-gathers t c =
    gathers-no-moves c.args.inst.now.draft _ c.args.moves.now c.args.scratch.now.set (nil_from_length c.args.moves.now c.in-None.ensures.cases)

pub returns-in-Some-clause-stands : goal.returns-in-Some-clause-stands
returns-in-Some-clause-stands t c =
    let I = c.args.inst.now.draft in
    let P = timetable_of c.args.ledgers.now in
    let m = c.in-Some.mv.now in
    let made : c.as_slice.result.now ≡ expand I P m = c.as_slice.ensures ∙ c.gather_move.ensures.made in
    let there : timetable_of c.put_all.new.ledgers ≡ after I P m = kept I _ c.put_all.new.ledgers c.put_all.ensures ∙ ap (λ ws. put_all ws P) made in
    subst (λ Q. AreLedgersOf I Q c.play_in_row_noting.new.ledgers)
    (ap (λ Q. after_all I Q c.in-Some.later.now) there
    ∙ (after-more I P m c.in-Some.later.now ∙ ap (after_all I P) (sym c.in-Some.ensures.cases.0))) c.play_in_row_noting.ensures.stands

pub returns-in-Some-clause-gathers : goal.returns-in-Some-clause-gathers
returns-in-Some-clause-gathers t c =
    let I = c.args.inst.now.draft in
    let P = timetable_of c.args.ledgers.now in
    let m = c.in-Some.mv.now in
    let ms = c.in-Some.later.now in
    let u = c.args.scratch.now.set in
    let w = c.play_in_row_noting.new.scratch.set in
    let made : c.as_slice.result.now ≡ expand I P m = c.as_slice.ensures ∙ c.gather_move.ensures.made in
    let there : timetable_of c.put_all.new.ledgers ≡ after I P m = kept I _ c.put_all.new.ledgers c.put_all.ensures ∙ ap (λ ws. put_all ws P) made in
    let others : Gathers c.gather_move.new.scratch.set w (all_touch I (after I P m) ms) =
    subst (λ Q. Gathers c.gather_move.new.scratch.set w (all_touch I Q ms)) there c.play_in_row_noting.ensures.gathers in
    subst (λ (ks : List Move). Gathers u w (all_touch I P ks)) (sym c.in-Some.ensures.cases.0)
    (gathers-more-moves I P m ms u c.gather_move.new.scratch.set w c.gather_move.ensures.gathers others)
