-- Moves in a row by their writes, and a single one.
use Rattle.std.proofs.Common.{◌≡◌, refl, sym, ◌∙◌, false, List, [], ◌∷◌, ◌++◌}
use Rattle.std.specs.Prelude.{◌||◌}
use Rattle.std.proofs.lemmas.List.{append-nil}
use Rattle.std.proofs.Math.Bool.{or-false}
use Rattle.ih_tables.specs.declared.drafts.Draft.{Draft}
use Rattle.ih_plan.specs.declared.moves.Move.{Move}
use Rattle.ih_plan.specs.declared.moves.Write.{Write}
use Rattle.ih_plan.specs.Timetable.{Timetable, IsPlanOf}
use Rattle.ih_plan.specs.Expand.{IsMoveOf, after, expand}
use Rattle.ih_plan.specs.Writes.{put, put_all, AreWritesOf}
use Rattle.ih_plan.specs.Cells.{cell_at, cell_count}
use Rattle.ih_plan.specs.Footprint.{touches, footprint}
use Rattle.ih_plan.proofs.ListedBelow.{which_below-same}
use Rattle.ih_plan.proofs.PlanRanges.{after-plan, expand-writes}
use Rattle.ih_plan.specs.Series.{AreMoves, after_all, all_touch, expand_all, footprint_of_all}
use Rattle.ih_plan.specs.Laws.{AreTheirWrites, IsAlone}

put_all-append : (ws vs : List Write) (P : Timetable) → put_all (ws ++ vs) P ≡ put_all vs (put_all ws P)
put_all-append [] vs P = refl
put_all-append (w ∷ ws) vs P = put_all-append ws vs (put w P)

pub moves-more : (I : Draft) (ms : List Move) (m : Move) → AreMoves I ms → IsMoveOf I m → AreMoves I (ms ++ m ∷ [])
moves-more I [] m all one = (one, tt)
moves-more I (n ∷ ms) m all one = (all.0, moves-more I ms m all.1 one)

pub after_all-plan : (I : Draft) (P : Timetable) (ms : List Move) → IsPlanOf I P → AreMoves I ms
    → IsPlanOf I (after_all I P ms)
unfolding after_all
after_all-plan I P [] plan fits = plan
after_all-plan I P (m ∷ ms) plan fits = after_all-plan I (after I P m) ms (after-plan I P m plan fits.0) fits.1

writes-append : (I : Draft) (ws vs : List Write) → AreWritesOf I ws → AreWritesOf I vs → AreWritesOf I (ws ++ vs)
writes-append I [] vs h k = k
writes-append I (w ∷ ws) vs h k = (h.0, writes-append I ws vs h.1 k)

pub expand_all-writes : (I : Draft) (P : Timetable) (ms : List Move) → IsPlanOf I P → AreMoves I ms
    → AreWritesOf I (expand_all I P ms)
unfolding expand_all
expand_all-writes I P [] plan fits = tt
expand_all-writes I P (m ∷ ms) plan fits =
    writes-append I (expand I P m) (expand_all I (after I P m) ms) (expand-writes I P m plan fits.0)
    (expand_all-writes I (after I P m) ms (after-plan I P m plan fits.0) fits.1)

-- their writes in a row leave the same timetable
pub after_all-writes : (I : Draft) (P : Timetable) (ms : List Move) → after_all I P ms ≡ put_all (expand_all I P ms) P
unfolding after_all expand_all
after_all-writes I P [] = refl
after_all-writes I P (m ∷ ms) =
    after_all-writes I (after I P m) ms ∙ sym (put_all-append (expand I P m) (expand_all I (after I P m) ms) P)

pub their-writes : (I : Draft) (P : Timetable) (ms : List Move) → IsPlanOf I P → AreMoves I ms → AreTheirWrites I P ms
their-writes I P ms plan fits = record {
  plan = after_all-plan I P ms plan fits;
  writes = expand_all-writes I P ms plan fits;
  afterwards = after_all-writes I P ms;
}

-- ---- a single move

pub alone : (I : Draft) (P : Timetable) (m : Move) → IsAlone I P m
unfolding after_all all_touch expand_all footprint footprint_of_all
alone I P m = record {
  expanded = append-nil (expand I P m);
  touched = λ c. or-false (touches I P m c);
  numbers =
      which_below-same (cell_count I) (λ n. touches I P m (cell_at I n) || false) (λ n. touches I P m (cell_at I n))
      (λ n h. or-false (touches I P m (cell_at I n)));
  afterwards = refl;
  price = refl;
}
