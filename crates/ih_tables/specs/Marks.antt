-- Marks on the numbers below the length of a list.
use Rattle.std.specs.Prelude.{ℕ, Bool, false, List, slice_index_or}

-- number i is marked
abbrev pub is_marked : List Bool → ℕ → Bool
is_marked marks i = slice_index_or marks i false
