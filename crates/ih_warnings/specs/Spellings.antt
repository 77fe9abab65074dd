-- Names that differ by upper and lower case or by spaces alone.
use Rattle.std.specs.Prelude.{ℕ, ◌==◌, ◌&&◌, not, Bool, List, filter, map}
use Rattle.std.specs.List.{list_any, range_with_len}
use Rattle.std.specs.Char.{to_ascii_lowercase}
use Rattle.std.specs.Str.{bytes_eq}

-- the name without spaces, in lower case
unfoldable pub plain : List ℕ → List ℕ
plain name = map to_ascii_lowercase (filter (λ b. not (b == 32)) name)

abbrev pub are_alike : List ℕ → List ℕ → Bool
are_alike a b = bytes_eq (plain a) (plain b)

-- of names by their places: an earlier one is this very name
abbrev pub is_repeated : (ℕ → List ℕ) → ℕ → Bool
is_repeated name i = list_any (λ j. bytes_eq (name j) (name i)) (range_with_len 0 i)

-- an earlier one is alike
abbrev pub has_like : (ℕ → List ℕ) → ℕ → Bool
has_like name i = list_any (λ j. are_alike (name j) (name i)) (range_with_len 0 i)

-- an earlier one differs from it by case or spaces alone, and none is this very name
abbrev pub is_respelt : (ℕ → List ℕ) → ℕ → Bool
is_respelt name i = not (is_repeated name i) && has_like name i
