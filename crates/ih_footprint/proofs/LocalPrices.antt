-- A move has one price at all timetables that agree on its footprint.
use Rattle.std.proofs.Common.{◌≡◌, ℕ, ◌+◌, ◌<◌, refl, arith, sym, ap, ◌∙◌, false, length, inl, inr}
use Rattle.std.specs.Prelude.{pos, ◌-ℤ◌, map, slice_index}
use Rattle.std.specs.List.{range_with_len}
use Rattle.std.proofs.lemmas.Bool.{cases_Bool}
use Rattle.std.proofs.lemmas.List.{get_or-map}
use Rattle.std.proofs.lemmas.List.FromFn.{get_or-map-range_with_len, length-map-range_with_len}
use Rattle.std.proofs.lemmas.Int.{ints}
use Rattle.ih_tables.specs.declared.drafts.Draft.{Draft}
use Rattle.ih_tables.specs.declared.cells.Cell.{Cell}
use Rattle.ih_tables.specs.Bills.{at}
use Rattle.ih_tables.specs.Listed.{listed}
use Rattle.ih_tables.specs.Sizes.{sizes_of}
use Rattle.ih_plan.specs.declared.moves.Move.{Move}
use Rattle.ih_plan.specs.Timetable.{Timetable, IsPlanOf}
use Rattle.ih_plan.specs.Expand.{IsMoveOf, after}
use Rattle.ih_plan.specs.BillOf.{Counts, change_of_bill}
use Rattle.ih_plan.specs.Cells.{cell_at, cell_count, part_at, IsCellOf}
use Rattle.ih_plan.specs.Footprint.{touches, footprint}
use Rattle.ih_plan.proofs.SumLemmas.{sum_below-same}
use Rattle.ih_plan.proofs.SumBounds.{sum_below-add}
use Rattle.ih_footprint.specs.Laws.{AreSameOn}
use Rattle.ih_footprint.specs.Laws.{IsLocal}
use Rattle.ih_plan.proofs.ChangeSums.{map-same}
use Rattle.ih_plan.proofs.ListedBelow.{which_below-same}
use Rattle.ih_plan.proofs.PlanRanges.{has-range}
use Rattle.ih_footprint.proofs.Locality.{local_move, frame_move}
use Rattle.ih_footprint.proofs.Ranked.{cell_in-in}
use Rattle.ih_plan.proofs.Parts.{total, has_parts}

difference-same : (a b c d : ℕ) → a + d ≡ b + c → pos a -ℤ pos b ≡ pos c -ℤ pos d
difference-same a b c d e = omega (arith, ints)

pub at-listed : (m : ℕ) (f : ℕ → ℕ) (k : ℕ) → k < m → at (map pos (listed m f)) k ≡ pos (f k)
at-listed m f k h =
    let inside : k < length (listed m f) = rw (length-map-range_with_len f 0 m) h in
    get_or-map pos (listed m f) k 0 (pos 0) inside ∙ ap pos (get_or-map-range_with_len f 0 m k k 0 h (omega arith))

-- lists of differences, number by number
pub differences-same : (m : ℕ) (a b c d : ℕ → ℕ) → ((k : ℕ) → a k + d k ≡ b k + c k)
    → listed m (λ k. at (map pos (listed m a)) k -ℤ at (map pos (listed m b)) k) ≡ listed m (λ k. at (map pos (listed m c)) k -ℤ at (map pos (listed m d)) k)
differences-same m a b c d e =
    map-same (λ k. at (map pos (listed m a)) k -ℤ at (map pos (listed m b)) k) (λ k. at (map pos (listed m c)) k -ℤ at (map pos (listed m d)) k) (range_with_len 0 m)
    (λ k h. let within = has-range 0 m k h in
    let inside : k < m = omega arith in
    rw (at-listed m a k inside, at-listed m b k inside, at-listed m c k inside, at-listed m d k inside) (difference-same (a k) (b k) (c k) (d k) (e k)))

module _ (I : Draft) (P Q : Timetable) (m : Move) (planP : IsPlanOf I P) (planQ : IsPlanOf I Q) (fits : IsMoveOf I m) (same : AreSameOn I (touches I P m) P Q) where
  each-cell : (g : Counts → ℕ) (c : Cell) → IsCellOf I c
      → g (part_at I (after I P m) c) + g (part_at I Q c) ≡ g (part_at I P c) + g (part_at I (after I Q m) c)
  each-cell g c range =
      let local = local_move I P Q m planP planQ fits same in
      elim (cases_Bool (touches I P m c)) [
        | inl touched ↦
            let before = same c range touched in
            let later = local.afterwards c range touched in
            rw (before, later) (omega arith)
        | inr apart ↦
            let apart_too : touches I Q m c ≡ false = local.touched c range ∙ apart in
            rw (frame_move I P m c planP fits range apart, frame_move I Q m c planQ fits range apart_too) refl
      ]

  each-number : (g : Counts → ℕ) → total I (λ c. g (part_at I (after I P m) c)) + total I (λ c. g (part_at I Q c))
      ≡ total I (λ c. g (part_at I P c)) + total I (λ c. g (part_at I (after I Q m) c))
  each-number g =
      sym (sum_below-add (cell_count I) (λ n. g (part_at I (after I P m) (cell_at I n))) (λ n. g (part_at I Q (cell_at I n))))
      ∙ sum_below-same (cell_count I) (λ n. g (part_at I (after I P m) (cell_at I n)) + g (part_at I Q (cell_at I n)))
      (λ n. g (part_at I P (cell_at I n)) + g (part_at I (after I Q m) (cell_at I n))) (λ n h. each-cell g (cell_at I n) (cell_in-in (sizes_of I) n h))
      ∙ sum_below-add (cell_count I) (λ n. g (part_at I P (cell_at I n))) (λ n. g (part_at I (after I Q m) (cell_at I n)))

  -- The bills change by the same seventeen numbers.
  pub change_same : change_of_bill I Q (after I Q m) ≡ change_of_bill I P (after I P m)
  change_same =
      let v = differences-same 9 (λ j. total I (λ c. slice_index (part_at I (after I P m) c).v j)) (λ j. total I (λ c. slice_index (part_at I P c).v j))
      (λ j. total I (λ c. slice_index (part_at I (after I Q m) c).v j)) (λ j. total I (λ c. slice_index (part_at I Q c).v j)) (λ j. each-number (λ c. slice_index c.v j)) in
      let s = differences-same 8 (λ j. total I (λ c. slice_index (part_at I (after I P m) c).s j)) (λ j. total I (λ c. slice_index (part_at I P c).s j))
      (λ j. total I (λ c. slice_index (part_at I (after I Q m) c).s j)) (λ j. total I (λ c. slice_index (part_at I Q c).s j)) (λ j. each-number (λ c. slice_index c.s j)) in
      rw (has_parts I P, has_parts I Q, has_parts I (after I P m), has_parts I (after I Q m)) (rw (v, s) refl)

  -- The footprints are the same lists of numbers.
  pub footprint_same : footprint I Q m ≡ footprint I P m
  unfolding footprint
  footprint_same =
      let local = local_move I P Q m planP planQ fits same in
      which_below-same (cell_count I) (λ n. touches I Q m (cell_at I n)) (λ n. touches I P m (cell_at I n)) (λ n h. local.touched (cell_at I n) (cell_in-in (sizes_of I) n h))

  pub move_is_local : IsLocal I P Q m
  move_is_local =
      let local = local_move I P Q m planP planQ fits same in
      record { expanded = local.expanded; touched = local.touched; numbers = footprint_same; afterwards = local.afterwards; price = change_same }
