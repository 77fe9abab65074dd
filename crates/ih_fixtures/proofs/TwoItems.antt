-- Two things in a list.
use Rattle.std.proofs.Common.{◌≡◌, ℕ, zero, suc, ◌<◌, List, [], ◌∷◌, map, arith, sym, subst}
use Rattle.std.specs.Prelude.{All, Contains, slice_index}
use Rattle.std.proofs.lemmas.List.Elements.{All-cons, All-head, All-nil, All-tail}

module _ {S : Type 0} (a b : S) (l : List S) (two : l ≡ a ∷ b ∷ []) where
  -- what holds of both holds of each of the list
  pub both_have : (P : S → Type 0) → P a → P b → All P l
  both_have P p q = subst (All P) (sym two) (All-cons P a (b ∷ []) p (All-cons P b [] q (All-nil P)))

  pub each_has : (P : S → Type 0) → All P l → P a × P b
  each_has P all = let both : All P (a ∷ b ∷ []) = subst (All P) two all in (All-head P a (b ∷ []) both, All-head P b [] (All-tail P a (b ∷ []) both))

  -- they have the numbers 0 and 1, and the list no others
  pub numbered : (number : S → ℕ) → ((k : ℕ) → k < 2 → slice_index (map number l) k ≡ k) → (number a ≡ 0) × (number b ≡ 1)
  numbered number each =
      let both : (k : ℕ) → k < 2 → slice_index (map number (a ∷ b ∷ [])) k ≡ k = subst (λ es. (k : ℕ) → k < 2 → slice_index (map number es) k ≡ k) two each in
      (both 0 (omega arith), both 1 (omega arith))

  pub both_numbers : (number : S → ℕ) → number a ≡ 0 → number b ≡ 1 → (count : ℕ) → count ≡ 2 → (n : ℕ) → n < count → Contains (map number l) n
  both_numbers number p q count is n below = subst (λ es. Contains (map number es) n) (sym two) (has n (subst (λ m. n < m) is below))
    where
      has : (n : ℕ) → n < 2 → Contains (number a ∷ number b ∷ []) n
      has zero h = (0, omega arith, p)
      has (suc zero) h = (1, omega arith, q)
      has (suc (suc n)) h = absurd (omega arith)
