-- Texts that differ.
use Rattle.std.specs.Prelude.{◌&&◌, not, Bool, true, List, [], ◌∷◌}
use Rattle.std.specs.List.{list_any}
use Rattle.std.specs.Str.{bytes_eq}
use Rattle.clap.specs.Words.{Text}

-- no two of the texts are equal
unfoldable pub all_differ : List Text → Bool
all_differ [] = true
all_differ (text ∷ rest) = not (list_any (bytes_eq text) rest) && all_differ rest
