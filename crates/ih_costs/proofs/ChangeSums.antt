-- Differences of bills: their numbers, and how large they are.
use Rattle.std.proofs.Common.{◌≡◌, ℕ, zero, suc, ◌^◌, refl, arith, List, [], ◌∷◌}
use Rattle.std.specs.Prelude.{pos, ℤ, ◌-ℤ◌, ◌≤ℤ◌, neg_ℤ, map, slice_index}
use Rattle.std.proofs.lemmas.Int.{ints}
use Rattle.ih_tables.specs.declared.bills.Bill.{Bill}
use Rattle.ih_tables.specs.Bills.{at, sub_bills, IsWithin}
use Rattle.ih_tables.proofs.BillLemmas.{at-listed}

-- a number of a list, as it is in a bill
pub at-counts : (xs : List ℕ) (k : ℕ) → at (map pos xs) k ≡ pos (slice_index xs k)
at-counts [] k = refl
at-counts (x ∷ xs) zero = refl
at-counts (x ∷ xs) (suc k) = at-counts xs k

apart : (x y : ℤ) → (neg_ℤ (pos (10 ^ 11)) ≤ℤ x) × (x ≤ℤ pos (10 ^ 11)) → (neg_ℤ (pos (10 ^ 11)) ≤ℤ y) × (y ≤ℤ pos (10 ^ 11))
    → (neg_ℤ (pos (10 ^ 12)) ≤ℤ (x -ℤ y)) × ((x -ℤ y) ≤ℤ pos (10 ^ 12))
apart x y hx hy = (omega (arith, ints, hx.0, hy.1), omega (arith, ints, hx.1, hy.0))

pub less-within : (a b : Bill) → IsWithin (10 ^ 11) a → IsWithin (10 ^ 11) b → IsWithin (10 ^ 12) (sub_bills a b)
less-within a b ha hb = record {
  v = λ k l. rw (at-listed 9 (λ k. at a.v k -ℤ at b.v k) k l) (apart (at a.v k) (at b.v k) (ha.v k l) (hb.v k l));
  s = λ k l. rw (at-listed 8 (λ k. at a.s k -ℤ at b.s k) k l) (apart (at a.s k) (at b.s k) (ha.s k l) (hb.s k l));
}
