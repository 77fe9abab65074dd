-- Named files in a list, the newest first. The first of a name counts.
use Rattle.std.specs.Prelude.{ℕ, List, [], ◌∷◌, Some, None, if◌then◌else◌}
use Rattle.std.specs.Str.{bytes_eq}
use Rattle.ih_shelf.specs.Outside.{Names}

pub record NamedFile : Type 0 where
  pub name : List ℕ
  pub bytes : List ℕ

-- the bytes of each name
abbrev pub names_of : List NamedFile → Names
names_of [] n = None
names_of (f ∷ fs) n = if bytes_eq f.name n then Some f.bytes else names_of fs n

-- the files once a name is set
abbrev pub stored : List NamedFile → List ℕ → List ℕ → List NamedFile
stored files name bytes = record { name = name; bytes = bytes } ∷ files
