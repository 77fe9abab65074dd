-- Sums so far of bounded terms, as a loop over the numbers below n keeps them.
use Rattle.std.proofs.Common.{◌≡◌, ℕ, suc, ◌+◌, ◌*◌, ◌≤◌, arith, refl, sym}
use Rattle.ih_plan.specs.Sums.{sum_below}
use Rattle.ih_plan.proofs.SumLemmas.{sum_below-zero, sum_below-more}

-- s is the sum of the first n terms, and is at most n times b
pub record IsSum (s n b : ℕ) (f : ℕ → ℕ) : Type 0 where
  pub value : s ≡ sum_below n f
  pub small : s ≤ b * n

pub is_sum-none : (b : ℕ) (f : ℕ → ℕ) → IsSum 0 0 b f
is_sum-none b f = record { value = sym (sum_below-zero f); small = omega arith }

pub is_sum-more : {s n b : ℕ} {f : ℕ → ℕ} (x : ℕ) → IsSum s n b f → x ≡ f n → x ≤ b → IsSum (s + x) (n + 1) b f
is_sum-more {s} {n} {b} {f} x so_far e h = record {
  value = rw (sum_below-more n f) (omega (arith, so_far.value));
  small = omega (arith, so_far.small);
}

three_more : (n m : ℕ) (f : ℕ → ℕ) → m ≡ n + 3 → sum_below m f ≡ sum_below n f + f n + f (n + 1) + f (n + 2)
unfolding sum_below
three_more n m f e =
    let all : m ≡ suc (suc (suc n)) = omega arith in
    let one : n + 1 ≡ suc n = omega arith in
    let two : n + 2 ≡ suc (suc n) = omega arith in
    rw (all, one, two) refl

-- the terms of the three shifts of one day more
pub is_sum-day : {s b : ℕ} {f : ℕ → ℕ} (d x : ℕ) → IsSum s (3 * d) b f → x ≡ sum_below 3 (λ j. f (3 * d + j)) → x ≤ 3 * b → IsSum (s + x) (3 * (d + 1)) b f
unfolding sum_below
is_sum-day {s} {b} {f} d x so_far e h = record {
  value =
      let first : 3 * d + 0 ≡ 3 * d = omega arith in
      let day = three_more (3 * d) (3 * (d + 1)) f (omega arith) in
      let terms = rw first at e in
      omega (arith, so_far.value, day, terms);
  small = omega (arith, so_far.small);
}
