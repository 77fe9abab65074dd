-- Marks on the nurses met so far, and how many they are.
use Rattle.std.proofs.Common.{◌≡◌, ℕ, zero, suc, ◌+◌, ◌*◌, ◌/◌, ◌%◌, ◌^◌, ◌<◌, ◌≤◌, refl, arith, sym, ap, subst, ◌∙◌, true, false, inl, inr, List, length, replicate, map, bit_or, w64}
use Rattle.std.specs.Prelude.{◌||◌, ◌==◌, not, slice_index, slice_set}
use Rattle.std.specs.Int.{bit_at}
use Rattle.std.specs.List.{list_any, range_with_len}
use Rattle.std.proofs.lemmas.Bool.{cases_eq, eq-eqb, ne_eqb, or_right}
use Rattle.std.proofs.lemmas.List.{get_or-set_other, get_or-set_same}
use Rattle.std.proofs.lemmas.Nat.Bits.{bit_at-zero, bit_at_set_same, bit_at_set_other}
use Rattle.std.proofs.Math.ListN.{length-replicate}
use Rattle.ih_tables.specs.declared.drafts.Draft.{Draft}
use Rattle.ih_tables.specs.Sizes.{nurse_count}
use Rattle.std.proofs.Math.Bool.{or-false}
use Rattle.ih_plan.specs.Timetable.{Timetable, care_of}
use Rattle.ih_plan.specs.Costs.{is_number, distinct_nurses}
use Rattle.ih_plan.specs.Sums.{bit, count_below}
use Rattle.ih_plan.proofs.SumLemmas.{sum_below-but, sum_below-same}
use Rattle.ih_plan.proofs.SumBounds.{sum_below-none}
use Rattle.ih_plan.proofs.ListSteps.{any_range-zero, any_range-more}
use Rattle.ih_nurses.specs.Marks.{is_marked}
use Rattle.ih_nurses.proofs.NewlyLemmas.{bit-not}

-- eight words of 0 have no mark
unmarked : (n i : ℕ) → is_marked (replicate n 0) i ≡ false
unmarked n i = ap (λ w. bit_at w (i % 64) == 1) (no-word n (i / 64)) ∙ ap (λ b. b == 1) (bit_at-zero (i % 64))
  where
    no-word : (n i : ℕ) → slice_index (replicate n 0) i ≡ 0
    no-word zero i = refl
    no-word (suc n) zero = refl
    no-word (suc n) (suc i) = no-word n i

-- the bit of number a is set
module _ (words : List ℕ) (a : ℕ) (inside : a < 64 * length words) where
  abbrev word : ℕ
  word = slice_index words (a / 64)

  abbrev pub marked : List ℕ
  marked = slice_set words (a / 64) (bit_or word (1 * 2 ^ (a % 64) % 2 ^ 64))

  own : is_marked marked a ≡ true
  own = rw (get_or-set_same words (a / 64) (bit_or word (1 * 2 ^ (a % 64) % 2 ^ 64)) 0 (omega arith), bit_at_set_same w64 word (a % 64) (omega arith)) refl

  other : (i : ℕ) → (i ≡ a → ⊥) → is_marked marked i ≡ is_marked words i
  other i ne = elim (cases_eq (i / 64) (a / 64)) [
    | inl same ↦
        let apart : i % 64 ≡ a % 64 → ⊥ = λ e. ne (omega (arith, same, e)) in
        rw (same, get_or-set_same words (a / 64) (bit_or word (1 * 2 ^ (a % 64) % 2 ^ 64)) 0 (omega arith), bit_at_set_other w64 word (a % 64) (omega arith) (i % 64) apart) refl
    | inr there ↦ rw (get_or-set_other words (a / 64) (i / 64) (bit_or word (1 * 2 ^ (a % 64) % 2 ^ 64)) 0 there) refl
  ]

  pub marked-each : (i : ℕ) → is_marked marked i ≡ (is_marked words i || (a == i))
  marked-each i = elim (cases_eq a i) [
    | inl same ↦ rw (eq-eqb a i same) (subst (λ j. is_marked marked j ≡ true) same own ∙ sym (or_right (is_marked words i) true refl))
    | inr ne ↦ rw (ne_eqb a i ne) (other i (λ e. ne (sym e)) ∙ sym (or-false (is_marked words i)))
  ]

  -- it counts one more where it is new
  pub count-marked : (m : ℕ) → a < m → count_below m (is_marked marked) ≡ count_below m (is_marked words) + bit (not (is_marked words a))
  count-marked m h =
      let change = sum_below-but m a (λ i. bit (is_marked marked i)) (λ i. bit (is_marked words i)) h (λ i ih ne. ap bit (other i ne)) in
      let after : bit (is_marked marked a) ≡ 1 = ap bit own in
      omega (arith, change, after, bit-not (is_marked words a))

-- the nurses of room r in the j shifts from the first on are marked and counted
pub record AreSeen (I : Draft) (P : Timetable) (r from j : ℕ) (seen : List ℕ) (count : ℕ) : Type 0 where
  pub len : length seen ≡ 8
  pub each : (n : ℕ) → is_marked seen n ≡ list_any (λ o. is_number o n) (map (care_of P r) (range_with_len from j))
  pub counted : count ≡ count_below (nurse_count I) (is_marked seen)
  pub few : count ≤ j

pub seen-none : (I : Draft) (P : Timetable) (r from : ℕ) → AreSeen I P r from 0 (replicate 8 0) 0
seen-none I P r from = record {
  len = length-replicate {A = ℕ} 8 0;
  each = λ n. unmarked 8 n ∙ sym (any_range-zero (λ o. is_number o n) (care_of P r) from);
  counted = sym (sum_below-same (nurse_count I) (λ i. bit (is_marked (replicate 8 0) i)) (λ i. 0) (λ i h. ap bit (unmarked 8 i)) ∙ sum_below-none (nurse_count I));
  few = omega arith;
}

pub seen-more : {I : Draft} {P : Timetable} {r from j : ℕ} {seen : List ℕ} {count : ℕ} → AreSeen I P r from j seen count → (new : List ℕ) (one : ℕ)
    → length new ≡ length seen → ((n : ℕ) → is_marked new n ≡ (is_marked seen n || is_number (care_of P r (from + j)) n))
    → count_below (nurse_count I) (is_marked new) ≡ count_below (nurse_count I) (is_marked seen) + one → one ≤ 1 → AreSeen I P r from (j + 1) new (count + one)
seen-more {I} {P} {r} {from} {j} {seen} {count} so_far new one len each counts small = record {
  len = len ∙ so_far.len;
  each = λ n. each n ∙ rw (so_far.each n) (sym (any_range-more (λ o. is_number o n) (care_of P r) from j));
  counted = omega (arith, counts, so_far.counted);
  few = omega (arith, so_far.few, small);
}

-- the nurses that were met are the distinct ones
pub seen-all : {I : Draft} {P : Timetable} {r from j : ℕ} {seen : List ℕ} {count : ℕ} → AreSeen I P r from j seen count
    → count ≡ distinct_nurses I (map (care_of P r) (range_with_len from j))
seen-all {I} {P} {r} {from} {j} {seen} {count} so_far =
    so_far.counted ∙ sum_below-same (nurse_count I) (λ n. bit (is_marked seen n)) (λ n. bit (list_any (λ o. is_number o n) (map (care_of P r) (range_with_len from j)))) (λ n h. ap bit (so_far.each n))
