-- Sums with a factor, with terms of 0, and with one term that counts.
use Rattle.std.proofs.Common.{◌≡◌, ℕ, zero, suc, ◌*◌, ◌<◌, ◌≤◌, refl, arith, ◌∙◌, inl, inr}
use Rattle.std.proofs.lemmas.Bool.{cases_lt}
use Rattle.ih_plan.specs.Sums.{sum_below}
use Rattle.ih_plan.proofs.SumLemmas.{sum_below-same, sum_below-but}
use Rattle.ih_plan.proofs.SumBounds.{sum_below-none, sum_below-swap}

pub sum_below-times : (n c : ℕ) (f : ℕ → ℕ) → sum_below n (λ i. c * f i) ≡ c * sum_below n f
unfolding sum_below
sum_below-times zero c f = omega arith
sum_below-times (suc n) c f = omega (arith, sum_below-times n c f)

-- a sum of 0 has no term but 0
pub sum_below-no_term : (n i : ℕ) (f : ℕ → ℕ) → sum_below n f ≡ 0 → i < n → f i ≡ 0
unfolding sum_below
sum_below-no_term zero i f e h = absurd (omega arith)
sum_below-no_term (suc n) i f e h = elim (cases_lt i n) [
  | inl below ↦ sum_below-no_term n i f (omega arith) below
  | inr above ↦ let same : i ≡ n = omega arith in rw same (omega arith)
]

pub rows-no_term : (m n i j : ℕ) (f : ℕ → ℕ → ℕ) → sum_below m (λ i. sum_below n (f i)) ≡ 0 → i < m → j < n → f i j ≡ 0
rows-no_term m n i j f e hi hj = sum_below-no_term n j (f i) (sum_below-no_term m i (λ i. sum_below n (f i)) e hi) hj

-- terms of 0 from m on add nothing
pub sum_below-past : (m n : ℕ) (f : ℕ → ℕ) → m ≤ n → ((i : ℕ) → m ≤ i → i < n → f i ≡ 0) → sum_below n f ≡ sum_below m f
unfolding sum_below
sum_below-past m zero f h e = let same : m ≡ 0 = omega arith in rw same refl
sum_below-past m (suc n) f h e = elim (cases_lt n m) [
  | inl all ↦ let same : m ≡ suc n = omega arith in rw same refl
  | inr more ↦ let rest = sum_below-past m n f more (λ i low high. e i low (omega arith)) in
      let last = e n more (omega arith) in
      omega arith
]

-- where all terms but one are 0
pub sum_below-one : (n k : ℕ) (f : ℕ → ℕ) → k < n → ((i : ℕ) → i < n → (i ≡ k → ⊥) → f i ≡ 0) → sum_below n f ≡ f k
sum_below-one n k f h e =
    let but = sum_below-but n k f (λ i. 0) h e in
    omega (arith, but, sum_below-none n)

-- a term is at most the sum
pub sum_below-term : (n k : ℕ) (f : ℕ → ℕ) → k < n → f k ≤ sum_below n f
unfolding sum_below
sum_below-term zero k f h = absurd (omega arith)
sum_below-term (suc n) k f h = elim (cases_lt k n) [
  | inl below ↦ omega (arith, sum_below-term n k f below)
  | inr above ↦ let same : k ≡ n = omega arith in rw same (omega arith)
]

-- three sums in the opposite order
pub sum_below-turn : (l m n : ℕ) (f : ℕ → ℕ → ℕ → ℕ)
    → sum_below l (λ i. sum_below m (λ j. sum_below n (λ k. f i j k))) ≡ sum_below n (λ k. sum_below m (λ j. sum_below l (λ i. f i j k)))
sum_below-turn l m n f =
    sum_below-swap l m (λ i j. sum_below n (λ k. f i j k))
    ∙ sum_below-same m (λ j. sum_below l (λ i. sum_below n (λ k. f i j k))) (λ j. sum_below n (λ k. sum_below l (λ i. f i j k))) (λ j h. sum_below-swap l n (λ i k. f i j k))
    ∙ sum_below-swap m n (λ j k. sum_below l (λ i. f i j k))

-- more terms, a sum no less
pub sum_below-longer : (m n : ℕ) (f : ℕ → ℕ) → m ≤ n → sum_below m f ≤ sum_below n f
unfolding sum_below
sum_below-longer m zero f h = let same : m ≡ 0 = omega arith in rw same (omega arith)
sum_below-longer m (suc n) f h = elim (cases_lt n m) [
  | inl all ↦ let same : m ≡ suc n = omega arith in rw same (omega arith)
  | inr more ↦ omega (arith, sum_below-longer m n f more)
]
