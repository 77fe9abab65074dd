-- The bill of a difference of small numbers has small numbers.
use Rattle.std.proofs.Common.{ℕ, zero, suc, ◌^◌, arith, List, [], ◌∷◌, pos, ℤ, to_z, of_z}
use Rattle.std.specs.Prelude.{◌≤ℤ◌, neg_ℤ, FitsSigned}
use Rattle.std.specs.Int.{w64}
use Rattle.std.proofs.lemmas.Int.{ints, to_z-of_z}
use Rattle.ih_tables.specs.Bills.{at, AreWithin}

-- at most 10^11 in magnitude
pub record IsSmall (x : ℤ) : Type 0 where
  pub low : neg_ℤ (pos (10 ^ 11)) ≤ℤ x
  pub high : x ≤ℤ pos (10 ^ 11)

abbrev AreSmall : List ℤ → Type 0
AreSmall [] = Unit {0}
AreSmall (x ∷ xs) = IsSmall x × AreSmall xs

none : IsSmall (pos 0)
none = record { low = omega (arith, ints); high = omega (arith, ints) }

small-at : (xs : List ℤ) → AreSmall xs → (k : ℕ) → IsSmall (at xs k)
small-at [] h k = none
small-at (x ∷ xs) h zero = h.0
small-at (x ∷ xs) h (suc k) = small-at xs h.1 k

-- a small number is read back as it was written
pub small-back : (x : ℤ) → (neg_ℤ (pos (10 ^ 11)) ≤ℤ x) → (x ≤ℤ pos (10 ^ 11)) → IsSmall (to_z w64 (of_z w64 x))
small-back x low high =
    let fits : FitsSigned w64 x = omega (arith, ints) in
    let back = to_z-of_z w64 x fits in
    rw back (record { low = low; high = high })

-- the broken rules of nursing alone
pub rules-small : {x y : ℤ} → IsSmall x → IsSmall y → AreWithin (10 ^ 11) 9 (pos 0 ∷ pos 0 ∷ pos 0 ∷ pos 0 ∷ pos 0 ∷ pos 0 ∷ pos 0 ∷ x ∷ y ∷ [])
rules-small {x} {y} a b = λ k h.
    let each = small-at (pos 0 ∷ pos 0 ∷ pos 0 ∷ pos 0 ∷ pos 0 ∷ pos 0 ∷ pos 0 ∷ x ∷ y ∷ []) (none, (none, (none, (none, (none, (none, (none, (a, (b, tt))))))))) k in
    (each.low, each.high)

-- its costs alone
pub costs-small : {x y z : ℤ} → IsSmall x → IsSmall y → IsSmall z → AreWithin (10 ^ 11) 8 (pos 0 ∷ x ∷ y ∷ z ∷ pos 0 ∷ pos 0 ∷ pos 0 ∷ pos 0 ∷ [])
costs-small {x} {y} {z} a b c = λ k h.
    let each = small-at (pos 0 ∷ x ∷ y ∷ z ∷ pos 0 ∷ pos 0 ∷ pos 0 ∷ pos 0 ∷ []) (none, (a, (b, (c, (none, (none, (none, (none, tt)))))))) k in
    (each.low, each.high)
