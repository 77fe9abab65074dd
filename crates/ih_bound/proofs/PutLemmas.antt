-- A list after a write.
use Rattle.std.proofs.Common.{◌≡◌, ℕ, ◌<◌, refl, List, length, set, inl, inr, ◌⊎◌}
use Rattle.std.specs.Prelude.{slice_index}
use Rattle.std.proofs.lemmas.Bool.{cases_eq}
use Rattle.std.proofs.lemmas.List.{get_or-set_same, get_or-set_other}

-- each entry is as before, but for that at i
pub put-each : (xs : List ℕ) (i x j : ℕ) → i < length xs → (slice_index (set xs i x) j ≡ slice_index xs j) ⊎ ((j ≡ i) × (slice_index (set xs i x) j ≡ x))
put-each xs i x j inside = elim (cases_eq j i) [
  | inl same ↦ inr (same, rw same (get_or-set_same xs i x 0 inside))
  | inr other ↦ inl (get_or-set_other xs i j x 0 other)
]
