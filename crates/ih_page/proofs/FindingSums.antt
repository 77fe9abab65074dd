-- The amounts that are found, summed, are the numbers of the bill.
use Rattle.std.proofs.Common.{◌≡◌, ◌∙◌, ℕ, zero, suc, ◌+◌, refl, sym, ap, arith, Bool, true, false, [], ◌∷◌, ◌++◌}
use Rattle.std.specs.Prelude.{◌==◌, if◌then◌else◌, not, pos, slice_index, sum_by}
use Rattle.std.proofs.Math.ListN.{get_or-map}
use Rattle.std.proofs.lemmas.Bool.{eqb-true}
use Rattle.std.proofs.lemmas.List.Sums.{sum_by_push}
use Rattle.std.proofs.lemmas.List.FromFn.{get_or-map-range_with_len}
use Rattle.ih_tables.specs.declared.drafts.Draft.{Draft}
use Rattle.ih_tables.specs.Bills.{at}
use Rattle.ih_plan.specs.Timetable.{Timetable}
use Rattle.ih_plan.specs.BillOf.{Counts, bill_of, as_bill}
use Rattle.ih_plan.specs.Cells.{cell_at, cell_count, part_at, sum_cells}
use Rattle.ih_plan.specs.Sums.{sum_below, which_below}
use Rattle.ih_plan.proofs.Parts.{has_parts}
use Rattle.ih_page.specs.declared.findings.Line.{Line}
use Rattle.ih_page.specs.declared.findings.Line.TheVariants.{Rule, Cost}
use Rattle.ih_page.specs.Findings.{IsLine, amount_at, count_in, number_in}
use Rattle.ih_page.specs.Laws.{FindingsSum}

-- no number of these is negative
pub counted : (c : Counts) (l : Line) → number_in (as_bill c) l ≡ pos (count_in c l)
counted c (Rule i) = get_or-map pos c.v i 0
counted c (Cost i) = get_or-map pos c.s i 0

-- what is 0 is left out of a sum
listed-sum : (f : ℕ → ℕ) (n : ℕ) → sum_by f (which_below n (λ i. not (f i == 0))) ≡ sum_below n f
unfolding which_below sum_below
listed-sum f zero = refl
listed-sum f (suc n) = by_case (f n == 0) (eqb-true (f n) 0) (listed-sum f n)
  where
    by_case : (b : Bool) → (b ≡ true → f n ≡ 0) → sum_by f (which_below n (λ i. not (f i == 0))) ≡ sum_below n f
        → sum_by f (if not b then which_below n (λ i. not (f i == 0)) ++ n ∷ [] else which_below n (λ i. not (f i == 0))) ≡ sum_below n f + f n
    by_case true none rest = let none_here = none refl in omega (arith, rest, none_here)
    by_case false none rest = let last = sum_by_push f (which_below n (λ i. not (f i == 0))) n in omega (arith, rest, last)

module _ (I : Draft) (P : Timetable) where
  -- the law of parts, line by line
  line-sum : (l : Line) → IsLine l → pos (sum_below (cell_count I) (amount_at I P l)) ≡ number_in (bill_of I P) l
  line-sum (Rule i) h =
      ap pos (sym (get_or-map-range_with_len (λ j. sum_below (cell_count I) (λ n. slice_index (part_at I P (cell_at I n)).v j)) 0 9 i i 0 h (omega arith)))
      ∙ (sym (get_or-map pos (sum_cells I (part_at I P)).v i 0) ∙ sym (ap (λ b. at b.v i) (has_parts I P)))
  line-sum (Cost i) h =
      ap pos (sym (get_or-map-range_with_len (λ j. sum_below (cell_count I) (λ n. slice_index (part_at I P (cell_at I n)).s j)) 0 8 i i 0 h (omega arith)))
      ∙ (sym (get_or-map pos (sum_cells I (part_at I P)).s i 0) ∙ sym (ap (λ b. at b.s i) (has_parts I P)))

  pub findings-sum : FindingsSum I P
  findings-sum l h = ap pos (listed-sum (amount_at I P l) (cell_count I)) ∙ line-sum l h
