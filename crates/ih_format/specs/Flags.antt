-- A table of the numbers that have been met already: one flag for each.
use Rattle.std.specs.Prelude.{ℕ, ◌==◌, Bool, false, List, slice_index_or}
use Rattle.std.specs.List.{list_any}

-- one of the items has this number
abbrev pub is_among : {A : Type 0} → (A → ℕ) → List A → ℕ → Bool
is_among number items k = list_any (λ x. number x == k) items
