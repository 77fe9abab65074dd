use Rattle.std.proofs.Common.{◌≡◌, ◌∷◌, [], ◌∙◌, sym, ap, subst, arith, length, List}
use Rattle.std.proofs.lemmas.List.{nil_from_length}
use Rattle.ih_plan.specs.declared.moves.Write.{Write}
use Rattle.ih_plan.specs.Timetable.{Timetable}
use Rattle.ih_plan.specs.Writes.{put, put_all}
use Rattle.ih_footprint.specs.CellsState.{Gathers}
use Rattle.ih_plan.specs.Series.{AreMoves, all_touch}
use Rattle.ih_costs.specs.CellLedgers.{timetable_of}
use Rattle.ih_costs.proofs.RowLemmas.{alone, gathers-behind, gathers-no-moves, gathers-one-move}
use Rattle.ih_costs.proofs.StandLemmas.{kept}
use Rattle.ih_costs.proofs.UndoLemmas.{taken-back}
use Rattle.ih_costs.proofs.row_footprints.+gather_row.Goals as goal

pub returns-in-Some-clause-stands : goal.returns-in-Some-clause-stands
returns-in-Some-clause-stands t c =
    taken-back c.in-Some.w.now c.put_for_now-undo.ensures.stands c.gather_row.ensures.stands c.put_for_now-undo.ensures.undo c.put.ensures

pub returns-in-Some-clause-gathers : goal.returns-in-Some-clause-gathers
returns-in-Some-clause-gathers t c =
    let I = c.args.inst.now.draft in
    let P = timetable_of c.args.ledgers.now in
    let ms = c.args.moves.now in
    let u = c.args.scratch.now.set in
    let v = c.gather_row.new.scratch.set in
    let made = kept I (put c.in-Some.w.now P) c.put_for_now-undo.new.ledgers c.put_for_now-undo.ensures.stands in
    subst (λ (ws : List Write). Gathers u v (all_touch I (put_all ws P) ms)) (sym c.in-Some.ensures.cases.0)
    (subst (λ (Q : Timetable). Gathers u v (all_touch I (put_all c.in-Some.rest.now Q) ms)) made c.gather_row.ensures.gathers)

pub returns-in-None-split_first-clause-gathers : goal.returns-in-None-split_first-clause-gathers
returns-in-None-split_first-clause-gathers t c =
    gathers-no-moves c.args.inst.now.draft _ c.args.moves.now c.args.scratch.now.set (nil_from_length c.args.moves.now c.in-None-split_first.ensures.cases)

-- a last move isn't made
pub returns-then-later-eq0-clause-gathers : goal.returns-then-later-eq0-clause-gathers
returns-then-later-eq0-clause-gathers t c =
    let I = c.args.inst.now.draft in
    let P = timetable_of c.args.ledgers.now in
    let m = c.in-Some-split_first.mv.now in
    let u = c.args.scratch.now.set in
    let v = c.gather_move.new.scratch.set in
    let none : c.args.before.now ≡ [] = nil_from_length c.args.before.now c.in-None.ensures.cases in
    subst (λ (ws : List Write). Gathers u v (all_touch I (put_all ws P) c.args.moves.now)) (sym none)
    (gathers-one-move I P m c.args.moves.now u v (alone c.in-Some-split_first.ensures.cases.0 c.if-later-eq0.true) c.gather_move.ensures.gathers)

pub gather_row-requires-in-Some-split_first : goal.gather_row-requires-in-Some-split_first
gather_row-requires-in-Some-split_first t c =
    let fits : AreMoves c.args.inst.now.draft (c.in-Some-split_first.mv.now ∷ c.in-Some-split_first.later.now) =
    subst (AreMoves _) c.in-Some-split_first.ensures.cases.0 c.requires.moves in (
      omega (arith, c.expand_here.ensures.few, ap length c.as_slice.ensures, ap length c.in-Some-split_first.ensures.cases.0, c.decreases),
      (
        c.requires.stands,
        (
          rw c.as_slice.ensures c.expand_here.ensures.fits,
          (
            fits.1,
            (c.gather_move.ensures.gathers.sizes ∙ c.requires.set, c.gather_move.ensures.sizes ∙ c.requires.sizes),
          ),
        ),
      ),
    )

pub returns-else-later-eq0-clause-gathers : goal.returns-else-later-eq0-clause-gathers
returns-else-later-eq0-clause-gathers t c =
    let P = timetable_of c.args.ledgers.now in
    gathers-behind c.args.inst.now.draft P c.as_slice.result.now (nil_from_length c.args.before.now c.in-None.ensures.cases) c.in-Some-split_first.ensures.cases.0
    (ap (λ ws. put_all ws P) (c.as_slice.ensures ∙ c.expand_here.ensures.made)) c.gather_move.ensures.gathers c.gather_row-in-Some-split_first.ensures.gathers
