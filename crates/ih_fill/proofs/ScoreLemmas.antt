-- Scores of four bills, two of which together have the same numbers as the other two.
use Rattle.std.proofs.Common.{◌≡◌, ℕ, zero, suc, ◌<◌, ◌≤◌, refl, ◌∙◌, ap, arith, List, [], ◌∷◌, ◌++◌, take, inl, inr, Bool, true, false}
use Rattle.std.specs.Prelude.{ℤ, pos, negsuc, ◌+ℤ◌, ◌-ℤ◌, ◌*ℤ◌}
use Rattle.std.proofs.lemmas.Int.{ints}
use Rattle.std.proofs.lemmas.Bool.{cases_lt}
use Rattle.std.proofs.Math.IntN.{*ℤ_comm, *ℤ-zero, suc_ℤ-*ℤ, pred_ℤ-*ℤ}
use Rattle.ih_tables.specs.declared.bills.Bill.{Bill}
use Rattle.ih_tables.specs.declared.bills.Weights.{Weights}
use Rattle.ih_tables.specs.Bills.{at, signed_sum, sub_bills, score, cost}
use Rattle.ih_tables.specs.Listed.{listed as by_place}
use Rattle.ih_tables.proofs.BillLemmas.{at-listed as at-by_place}
use Rattle.ih_fill.specs.Fill.{without_uncovered}
use Rattle.ih_fill.specs.FirstLeast.{IsBefore}
use Rattle.ih_fill.specs.ScorerState.{view_of}

-- the sums of two pairs are the same
abbrev pub AreEven : ℤ → ℤ → ℤ → ℤ → Type 0
AreEven x y z u = x +ℤ y ≡ z +ℤ u

times-more : (x : ℤ) (n : ℕ) → x *ℤ pos (suc n) ≡ (x *ℤ pos n) +ℤ x
times-more x n = *ℤ_comm x (pos (suc n)) ∙ (suc_ℤ-*ℤ (pos n) x ∙ ap (λ y. y +ℤ x) (*ℤ_comm (pos n) x))

times-first : (x : ℤ) → x *ℤ negsuc 0 ≡ (x *ℤ pos 0) -ℤ x
times-first x = *ℤ_comm x (negsuc 0) ∙ (pred_ℤ-*ℤ (pos 0) x ∙ ap (λ y. y -ℤ x) (*ℤ_comm (pos 0) x))

times-less : (x : ℤ) (n : ℕ) → x *ℤ negsuc (suc n) ≡ (x *ℤ negsuc n) -ℤ x
times-less x n = *ℤ_comm x (negsuc (suc n)) ∙ (pred_ℤ-*ℤ (negsuc n) x ∙ ap (λ y. y -ℤ x) (*ℤ_comm (negsuc n) x))

up-even : (a b c d x y z u : ℤ) → AreEven a b c d → AreEven x y z u → AreEven (a +ℤ x) (b +ℤ y) (c +ℤ z) (d +ℤ u)
up-even a b c d x y z u e f = omega (arith, ints)

down-even : (a b c d x y z u : ℤ) → AreEven a b c d → AreEven x y z u → AreEven (a -ℤ x) (b -ℤ y) (c -ℤ z) (d -ℤ u)
down-even a b c d x y z u e f = omega (arith, ints)

scaled-up : (x y z u : ℤ) (n : ℕ) → AreEven x y z u → AreEven (x *ℤ pos n) (y *ℤ pos n) (z *ℤ pos n) (u *ℤ pos n)
scaled-up x y z u zero e = rw (*ℤ-zero x, *ℤ-zero y, *ℤ-zero z, *ℤ-zero u) refl
scaled-up x y z u (suc n) e =
    rw (times-more x n, times-more y n, times-more z n, times-more u n)
    (up-even (x *ℤ pos n) (y *ℤ pos n) (z *ℤ pos n) (u *ℤ pos n) x y z u (scaled-up x y z u n e) e)

scaled-down : (x y z u : ℤ) (n : ℕ) → AreEven x y z u → AreEven (x *ℤ negsuc n) (y *ℤ negsuc n) (z *ℤ negsuc n) (u *ℤ negsuc n)
scaled-down x y z u zero e =
    rw (times-first x, times-first y, times-first z, times-first u)
    (down-even (x *ℤ pos 0) (y *ℤ pos 0) (z *ℤ pos 0) (u *ℤ pos 0) x y z u (scaled-up x y z u 0 e) e)
scaled-down x y z u (suc n) e =
    rw (times-less x n, times-less y n, times-less z n, times-less u n)
    (down-even (x *ℤ negsuc n) (y *ℤ negsuc n) (z *ℤ negsuc n) (u *ℤ negsuc n) x y z u (scaled-down x y z u n e) e)

scaled-even : (x y z u w : ℤ) → AreEven x y z u → AreEven (x *ℤ w) (y *ℤ w) (z *ℤ w) (u *ℤ w)
scaled-even x y z u (pos n) e = scaled-up x y z u n e
scaled-even x y z u (negsuc n) e = scaled-down x y z u n e

sums-even : (n : ℕ) (f g h l : ℕ → ℤ) → ((k : ℕ) → k < n → AreEven (f k) (g k) (h k) (l k)) → AreEven (signed_sum n f) (signed_sum n g) (signed_sum n h) (signed_sum n l)
unfolding signed_sum
sums-even zero f g h l e = refl
sums-even (suc n) f g h l e =
    up-even (signed_sum n f) (signed_sum n g) (signed_sum n h) (signed_sum n l) (f n) (g n) (h n) (l n)
    (sums-even n f g h l (λ k below. e k (omega arith))) (e n (omega arith))

-- number by number, two bills together are the other two
pub record AreBalanced (a b c d : Bill) : Type 0 where
  pub v : (k : ℕ) → k < 9 → AreEven (at a.v k) (at b.v k) (at c.v k) (at d.v k)
  pub s : (k : ℕ) → k < 8 → AreEven (at a.s k) (at b.s k) (at c.s k) (at d.s k)

pub scores-even : (hard : ℕ) (w : Weights) (a b c d : Bill) → AreBalanced a b c d → AreEven (score hard w a) (score hard w b) (score hard w c) (score hard w d)
scores-even hard w a b c d h =
    let broken = sums-even 9 (at a.v) (at b.v) (at c.v) (at d.v) h.v in
    let scaled = scaled-even (signed_sum 9 (at a.v)) (signed_sum 9 (at b.v)) (signed_sum 9 (at c.v)) (signed_sum 9 (at d.v)) (pos hard) broken in
    let costs = sums-even 8 (λ k. at a.s k *ℤ at w.w k) (λ k. at b.s k *ℤ at w.w k) (λ k. at c.s k *ℤ at w.w k) (λ k. at d.s k *ℤ at w.w k)
    (λ k below. scaled-even (at a.s k) (at b.s k) (at c.s k) (at d.s k) (at w.w k) (h.s k below)) in
    up-even (pos hard *ℤ signed_sum 9 (at a.v)) (pos hard *ℤ signed_sum 9 (at b.v)) (pos hard *ℤ signed_sum 9 (at c.v)) (pos hard *ℤ signed_sum 9 (at d.v))
    (cost w a) (cost w b) (cost w c) (cost w d)
    (rw (*ℤ_comm (pos hard) (signed_sum 9 (at a.v)), *ℤ_comm (pos hard) (signed_sum 9 (at b.v)), *ℤ_comm (pos hard) (signed_sum 9 (at c.v)), *ℤ_comm (pos hard) (signed_sum 9 (at d.v))) scaled)
    costs

less-even : (x y z u e : ℤ) → AreEven x y z u → AreEven (x -ℤ e) (y -ℤ e) (z -ℤ e) (u -ℤ e)
less-even x y z u e h = omega (arith, ints)

less-places : (m k : ℕ) (x y z u e : ℕ → ℤ) → k < m → AreEven (x k) (y k) (z k) (u k)
    → AreEven (at (by_place m (λ j. x j -ℤ e j)) k) (at (by_place m (λ j. y j -ℤ e j)) k) (at (by_place m (λ j. z j -ℤ e j)) k) (at (by_place m (λ j. u j -ℤ e j)) k)
less-places m k x y z u e below h =
    rw (at-by_place m (λ j. x j -ℤ e j) k below, at-by_place m (λ j. y j -ℤ e j) k below, at-by_place m (λ j. z j -ℤ e j) k below, at-by_place m (λ j. u j -ℤ e j) k below)
    (less-even (x k) (y k) (z k) (u k) (e k) h)

-- what four bills add to one
pub changes-balanced : (a b c d e : Bill) → AreBalanced a b c d → AreBalanced (sub_bills a e) (sub_bills b e) (sub_bills c e) (sub_bills d e)
changes-balanced a b c d e h = record {
  v = λ k below. less-places 9 k (at a.v) (at b.v) (at c.v) (at d.v) (at e.v) below (h.v k below);
  s = λ k below. less-places 8 k (at a.s) (at b.s) (at c.s) (at d.s) (at e.s) below (h.s k below);
}

-- the first n numbers, and 0 after them
abbrev ended : ℕ → List ℤ → List ℤ
ended n xs = take n xs ++ pos 0 ∷ []

at-front : (xs : List ℤ) (n k : ℕ) → k < n → at (ended n xs) k ≡ at xs k
at-front xs zero k h = absurd (omega arith)
at-front [] (suc n) zero h = refl
at-front [] (suc n) (suc k) h = refl
at-front (x ∷ xs) (suc n) zero h = refl
at-front (x ∷ xs) (suc n) (suc k) h = at-front xs n k (omega arith)

at-end : (xs : List ℤ) (n k : ℕ) → n ≤ k → at (ended n xs) k ≡ pos 0
at-end xs zero zero h = refl
at-end xs zero (suc k) h = refl
at-end [] (suc n) zero h = refl
at-end [] (suc n) (suc k) h = refl
at-end (x ∷ xs) (suc n) zero h = absurd (omega arith)
at-end (x ∷ xs) (suc n) (suc k) h = at-end xs n k (omega arith)

ended-even : (xs ys zs us : List ℤ) (n k : ℕ) → AreEven (at xs k) (at ys k) (at zs k) (at us k)
    → AreEven (at (ended n xs) k) (at (ended n ys) k) (at (ended n zs) k) (at (ended n us) k)
ended-even xs ys zs us n k e = elim (cases_lt k n) [
  | inl before ↦ rw (at-front xs n k before, at-front ys n k before, at-front zs n k before, at-front us n k before) e
  | inr after ↦ rw (at-end xs n k after, at-end ys n k after, at-end zs n k after, at-end us n k after) refl
]

covered-balanced : (a b c d : Bill) → AreBalanced a b c d → AreBalanced (without_uncovered a) (without_uncovered b) (without_uncovered c) (without_uncovered d)
covered-balanced a b c d h = record { v = λ k below. ended-even a.v b.v c.v d.v 8 k (h.v k below); s = h.s }

pub viewed-balanced : (counts : Bool) (a b c d : Bill) → AreBalanced a b c d → AreBalanced (view_of counts a) (view_of counts b) (view_of counts c) (view_of counts d)
viewed-balanced true a b c d h = h
viewed-balanced false a b c d h = covered-balanced a b c d h

-- two pairs that differ alike are in one order
pub before-even : (x y z u : ℤ) (p k : ℕ) → AreEven x u y z → IsBefore x p y k → IsBefore z p u k
before-even x y z u p k e (inl less) = inl (omega (arith, ints))
before-even x y z u p k e (inr same) = let one = same.0 in inr (omega (arith, ints), same.1)
