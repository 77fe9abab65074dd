-- Marks on numbers, as the bits of a number.
use Rattle.std.specs.Prelude.{◌≡◌, ◌≤◌, ◌==◌, ℕ, Bool, false, not, Option, Some, None}
use Rattle.std.specs.Int.{bit_at}

-- number i is marked
abbrev pub is_marked : ℕ → ℕ → Bool
is_marked marks i = bit_at marks i == 1

-- there is a number, and it isn't marked
abbrev pub is_unmarked : ℕ → Option ℕ → Bool
is_unmarked marks None = false
is_unmarked marks (Some i) = not (is_marked marks i)

-- none but numbers below n are marked
abbrev pub AreBelow : ℕ → ℕ → Type 0
AreBelow n marks = (i : ℕ) → n ≤ i → is_marked marks i ≡ false
