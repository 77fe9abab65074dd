-- What tests give: what a fact counts, what is there under a condition, and comparisons of numbers.
use Rattle.std.proofs.Common.{◌≡◌, ℕ, ◌≤◌, refl, sym, subst, arith, Bool, true, false, inl, inr}
use Rattle.std.specs.Prelude.{ℤ, ◌≤ℤ◌, ◌<ℤ◌, ◌==◌, int_lt, if◌then◌else◌, T, not}
use Rattle.std.specs.Int.Signed.{lt_z_no}
use Rattle.std.proofs.lemmas.Bool.{cases_eq, eq-eqb, ne_eqb}
use Rattle.ih_plan.specs.Sums.{bit}

-- a fact counts at most 1
pub bit-most : (b : Bool) → bit b ≤ 1
bit-most true = omega arith
bit-most false = omega arith

-- 1 under a condition is what the condition counts
pub if-bit : (b : Bool) → (if b then 1 else 0) ≡ bit b
if-bit true = refl
if-bit false = refl

-- nothing, whatever the condition
pub if-none : (b : Bool) → ◌≡◌ {A = ℕ} (if b then 0 else 0) 0
if-none true = refl
if-none false = refl

-- a number under a condition is at most that number
pub if-most : (b : Bool) (n : ℕ) → (if b then n else 0) ≤ n
if-most true n = omega arith
if-most false n = omega arith

-- it doesn't matter which of two numbers comes first
pub equal-swap : (m n : ℕ) → (m == n) ≡ (n == m)
equal-swap m n = elim (cases_eq m n) [
  | inl same ↦ rw (eq-eqb m n same, eq-eqb n m (sym same)) refl
  | inr other ↦ rw (ne_eqb m n other, ne_eqb n m (λ e. other (sym e))) refl
]

-- what a comparison of whole numbers tells
pub below : (x y : ℤ) → int_lt x y ≡ true → x <ℤ y
below x y h = record { lt = subst T (sym h) tt }

pub not-below : (x y : ℤ) → int_lt x y ≡ false → y ≤ℤ x
not-below x y h = lt_z_no {a = x} {b = y} (subst (λ t. T (not t)) (sym h) tt)
