-- Marks on numbers, as the bits of words of 64.
use Rattle.std.specs.Prelude.{ℕ, ◌/◌, ◌%◌, ◌==◌, Bool, List, slice_index}
use Rattle.std.specs.Int.{bit_at}

-- number i is marked
abbrev pub is_marked : List ℕ → ℕ → Bool
is_marked words i = bit_at (slice_index words (i / 64)) (i % 64) == 1
