-- Moves in a row: what is outside their footprint stays, and what they do rests on the footprint's contents alone.
use Rattle.std.proofs.Common.{◌≡◌, refl, sym, ap, ◌∙◌, Bool, true, false, List, [], ◌∷◌, ◌++◌}
use Rattle.std.proofs.lemmas.Bool.{or_left, or_right, or_parts}
use Rattle.ih_tables.specs.declared.drafts.Draft.{Draft}
use Rattle.ih_tables.specs.declared.cells.Cell.{Cell}
use Rattle.ih_tables.specs.Bills.{add_bills}
use Rattle.ih_tables.specs.Sizes.{sizes_of}
use Rattle.ih_plan.specs.declared.moves.Move.{Move}
use Rattle.ih_plan.specs.Timetable.{Timetable, IsPlanOf}
use Rattle.ih_plan.specs.Expand.{after, expand, IsMoveOf}
use Rattle.ih_plan.specs.BillOf.{change_of_bill}
use Rattle.ih_plan.specs.Cells.{IsCellOf, content_of, cell_at, cell_count}
use Rattle.ih_plan.specs.Footprint.{touches, writes_touch, looks_at}
use Rattle.ih_plan.proofs.ListedBelow.{which_below-same}
use Rattle.ih_plan.proofs.PlanRanges.{after-plan, expand-writes}
use Rattle.ih_footprint.specs.Laws.{AreSameOn}
use Rattle.ih_footprint.proofs.Locality.{frame_move, local_all, local_move}
use Rattle.ih_footprint.proofs.LocalPrices.{change_same}
use Rattle.ih_footprint.proofs.Ranked.{cell_in-in}
use Rattle.ih_plan.specs.Series.{AreMoves, after_all, all_touch, expand_all, footprint_of_all, price_of_all}
use Rattle.ih_plan.proofs.ChangeSums.{change-then, change-same}
use Rattle.ih_footprint.specs.Laws.{AreLocal}

pub frame_series : (I : Draft) (P : Timetable) (ms : List Move) (c : Cell) → IsPlanOf I P → AreMoves I ms → IsCellOf I c
    → all_touch I P ms c ≡ false → content_of I (after_all I P ms) c ≡ content_of I P c
unfolding after_all all_touch
frame_series I P [] c plan fits range h = refl
frame_series I P (m ∷ ms) c plan fits range h =
    let apart = or_parts (touches I P m c) (all_touch I (after I P m) ms c) h in
    frame_series I (after I P m) ms c (after-plan I P m plan fits.0) fits.1 range apart.1
    ∙ frame_move I P m c plan fits.0 range apart.0

-- one move leaves the same contents on cells among which its footprint is
after-alike : (I : Draft) (P Q : Timetable) (m : Move) (passes : Cell → Bool) → IsPlanOf I P → IsPlanOf I Q → IsMoveOf I m
    → AreSameOn I passes P Q → ((c : Cell) → IsCellOf I c → touches I P m c ≡ true → passes c ≡ true)
    → AreSameOn I passes (after I P m) (after I Q m)
unfolding touches
after-alike I P Q m passes planP planQ fits same within =
    let local = local_move I P Q m planP planQ fits (λ c range h. same c range (within c range h)) in
    let both = local_all I P Q (expand I P m) passes planP planQ (expand-writes I P m planP fits) same
    (λ c range h. within c range (or_left (writes_touch I P (expand I P m) c) (looks_at m c) h)) in
    rw local.expanded both.1

-- what is the same by cases on the list
record AreAlike (I : Draft) (P Q : Timetable) (ms : List Move) (passes : Cell → Bool) : Type 0 where
  expanded : expand_all I Q ms ≡ expand_all I P ms
  touched : (c : Cell) → IsCellOf I c → all_touch I Q ms c ≡ all_touch I P ms c
  afterwards : AreSameOn I passes (after_all I P ms) (after_all I Q ms)
  price : price_of_all I Q ms ≡ price_of_all I P ms

alike : (I : Draft) (P Q : Timetable) (ms : List Move) (passes : Cell → Bool) → IsPlanOf I P → IsPlanOf I Q → AreMoves I ms
    → AreSameOn I passes P Q → ((c : Cell) → IsCellOf I c → all_touch I P ms c ≡ true → passes c ≡ true)
    → AreAlike I P Q ms passes
unfolding after_all all_touch expand_all
alike I P Q [] passes planP planQ fits same within = record {
  expanded = refl;
  touched = λ c range. refl;
  afterwards = same;
  price = sym (change-same I Q) ∙ change-same I P;
}
alike I P Q (m ∷ ms) passes planP planQ fits same within =
    let first : (c : Cell) → IsCellOf I c → touches I P m c ≡ true → passes c ≡ true =
    λ c range h. within c range (or_left (touches I P m c) (all_touch I (after I P m) ms c) h) in
    let on_first : AreSameOn I (touches I P m) P Q = λ c range h. same c range (first c range h) in
    let one = local_move I P Q m planP planQ fits.0 on_first in
    let rest = alike I (after I P m) (after I Q m) ms passes
    (after-plan I P m planP fits.0) (after-plan I Q m planQ fits.0) fits.1
    (after-alike I P Q m passes planP planQ fits.0 same first)
    (λ c range h. within c range (or_right (touches I P m c) (all_touch I (after I P m) ms c) h)) in
    record {
      expanded =
          ap (λ ws. ws ++ expand_all I (after I Q m) ms) one.expanded ∙ ap (λ vs. expand I P m ++ vs) rest.expanded;
      touched = λ c range. rw (one.touched c range, rest.touched c range) refl;
      afterwards = rest.afterwards;
      price = sym (change-then I Q (after I Q m) (after_all I (after I Q m) ms))
          ∙ (ap (λ b. add_bills b (price_of_all I (after I Q m) ms)) (change_same I P Q m planP planQ fits.0 on_first)
          ∙ (ap (add_bills (change_of_bill I P (after I P m))) rest.price
          ∙ change-then I P (after I P m) (after_all I (after I P m) ms)));
    }

pub series_local : (I : Draft) (P Q : Timetable) (ms : List Move) (passes : Cell → Bool) → IsPlanOf I P → IsPlanOf I Q
    → AreMoves I ms → AreSameOn I passes P Q → ((c : Cell) → IsCellOf I c → all_touch I P ms c ≡ true → passes c ≡ true)
    → AreLocal I P Q ms passes
unfolding footprint_of_all
series_local I P Q ms passes planP planQ fits same within =
    let both = alike I P Q ms passes planP planQ fits same within in
    record {
      expanded = both.expanded;
      touched = both.touched;
      numbers =
          which_below-same (cell_count I) (λ n. all_touch I Q ms (cell_at I n)) (λ n. all_touch I P ms (cell_at I n))
          (λ n h. both.touched (cell_at I n) (cell_in-in (sizes_of I) n h));
      afterwards = both.afterwards;
      price = both.price;
    }
