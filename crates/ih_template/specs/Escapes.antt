-- JSON that stands inside an element of HTML: the signs that HTML could read, and the two that end a line in scripts,
-- stand by their numbers. JSON has these signs only inside texts, where their numbers mean the same.
use Rattle.std.specs.Prelude.{ℕ, ◌+◌, ◌-◌, Bool, ◌==◌, ◌&&◌, ◌||◌, List, [], ◌∷◌, codes, length, slice_index, if◌then◌else◌}
use Rattle.ih_validate.specs.Report.{lines_below}

-- U+2028 or U+2029 begins at byte i: both have three bytes
abbrev pub is_separator : List ℕ → ℕ → Bool
is_separator text i =
    slice_index text i == 226 && (slice_index text (i + 1) == 128 && (slice_index text (i + 2) == 168 || slice_index text (i + 2) == 169))

-- byte i is one of the later two of such a sign
abbrev pub is_within : List ℕ → ℕ → Bool
is_within text i = is_separator text (i - 1) || is_separator text (i - 2)

abbrev pub escaped_byte : ℕ → List ℕ
escaped_byte b =
    if b == 38 then codes "\\u0026" else if b == 60 then codes "\\u003c" else if b == 62 then codes "\\u003e" else b ∷ []

-- what stands for such a sign, by its last byte
abbrev pub separator_name : ℕ → List ℕ
separator_name last = if last == 168 then codes "\\u2028" else codes "\\u2029"

-- what stands for byte i
unfoldable pub escaped_at : List ℕ → ℕ → List ℕ
escaped_at text i =
    if is_separator text i then separator_name (slice_index text (i + 2))
    else if is_within text i then [] else escaped_byte (slice_index text i)

abbrev pub escaped : List ℕ → List ℕ
escaped text = lines_below (length text) (escaped_at text)
