-- Sums in the other order, and bounds on sums of what each number gives to one place alone.
use Rattle.std.proofs.Common.{◌≡◌, ℕ, zero, suc, ◌+◌, ◌<◌, ◌≤◌, refl, arith, sym, inl, inr}
use Rattle.std.specs.Prelude.{if◌then◌else◌, ◌==◌}
use Rattle.std.proofs.lemmas.Bool.{cases_eq, eq-eqb, ne_eqb}
use Rattle.ih_plan.specs.Sums.{sum_below}

pub sum_below-le_each : (n : ℕ) (f g : ℕ → ℕ) → ((i : ℕ) → i < n → f i ≤ g i) → sum_below n f ≤ sum_below n g
unfolding sum_below
sum_below-le_each zero f g h = omega arith
sum_below-le_each (suc n) f g h =
    omega (arith, sum_below-le_each n f g (λ i l. h i (omega arith)), h n (omega arith))

pub sum_below-add : (n : ℕ) (f g : ℕ → ℕ) → sum_below n (λ i. f i + g i) ≡ sum_below n f + sum_below n g
unfolding sum_below
sum_below-add zero f g = refl
sum_below-add (suc n) f g = omega (arith, sum_below-add n f g)

pub sum_below-none : (n : ℕ) → sum_below n (λ i. 0) ≡ 0
unfolding sum_below
sum_below-none zero = refl
sum_below-none (suc n) = omega (arith, sum_below-none n)

-- the sums in the other order
pub sum_below-swap : (m n : ℕ) (f : ℕ → ℕ → ℕ) → sum_below m (λ i. sum_below n (λ j. f i j)) ≡ sum_below n (λ j. sum_below m (λ i. f i j))
unfolding sum_below
sum_below-swap zero n f = sym (sum_below-none n)
sum_below-swap (suc m) n f =
    let rest = sum_below-swap m n f in
    let apart = sum_below-add n (λ j. sum_below m (λ i. f i j)) (f m) in
    omega (arith, rest, apart)

none_there : (n k x : ℕ) → n ≤ k → sum_below n (λ i. if k == i then x else 0) ≡ 0
unfolding sum_below
none_there zero k x h = refl
none_there (suc n) k x h =
    let here = ne_eqb k n (λ e. omega arith) in
    let rest = none_there n k x (omega arith) in
    rw (here, rest) refl

-- a number counts at one place at most
pub one_place : (m k x : ℕ) → sum_below m (λ i. if k == i then x else 0) ≤ x
unfolding sum_below
one_place zero k x = omega arith
one_place (suc m) k x = elim (cases_eq k m) [
  | inl same ↦ rw (same, eq-eqb m m refl) (omega (arith, none_there m m x (omega arith)))
  | inr other ↦ rw (ne_eqb k m other) (omega (arith, one_place m k x))
]
