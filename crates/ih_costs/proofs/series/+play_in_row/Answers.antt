use Rattle.std.proofs.Common.{◌≡◌, [], ◌∙◌, sym, ap, subst}
use Rattle.std.proofs.lemmas.List.{nil_from_length}
use Rattle.ih_plan.specs.Writes.{put_all}
use Rattle.ih_plan.specs.Expand.{after}
use Rattle.ih_plan.specs.Series.{after_all}
use Rattle.ih_costs.specs.CellLedgers.{AreLedgersOf, timetable_of}
use Rattle.ih_costs.proofs.RowLemmas.{after-none, after-more}
use Rattle.ih_costs.proofs.StandLemmas.{kept}
use Rattle.ih_costs.proofs.series.+play_in_row.Goals as goal

pub returns-in-None : goal.returns-in-None
returns-in-None t c =
    let none : c.args.moves.now ≡ [] = nil_from_length c.args.moves.now c.in-None.ensures.cases in
    subst (λ Q. AreLedgersOf c.args.inst.now.draft Q c.args.ledgers.now) (after-none c.args.inst.now.draft (timetable_of c.args.ledgers.now) c.args.moves.now none) c.requires.stands

pub returns-in-Some : goal.returns-in-Some
returns-in-Some t c =
    let I = c.args.inst.now.draft in
    let P = timetable_of c.args.ledgers.now in
    let m = c.in-Some.mv.now in
    let made = c.as_slice.ensures ∙ c.expand_here.ensures.made in
    let there : timetable_of c.put_all.new.ledgers ≡ after I P m = kept I _ c.put_all.new.ledgers c.put_all.ensures ∙ ap (λ ws. put_all ws P) made in
    subst (λ Q. AreLedgersOf I Q c.play_in_row.new.ledgers)
    (ap (λ Q. after_all I Q c.in-Some.later.now) there ∙ (after-more I P m c.in-Some.later.now ∙ ap (after_all I P) (sym c.in-Some.ensures.cases.0))) c.play_in_row.ensures
