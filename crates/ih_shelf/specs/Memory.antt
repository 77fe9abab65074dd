-- What the shelf and the sink in memory are, and what their calls make of them.
use Rattle.std.specs.Prelude.{ℕ, ◌||◌, Bool, is_some, is_none, List, [], take, if◌then◌else◌}
use Rattle.ih_shelf.specs.Stored.{NamedFile, names_of, stored}
use Rattle.ih_shelf.specs.Faults.{Faults, no_faults, due, called, failed}

-- a shelf in memory
pub record MemShelfState : Type 0 where
  pub files : List NamedFile
  pub reads : Faults
  pub writes : Faults

-- nothing on it
abbrev pub empty_shelf : MemShelfState
empty_shelf = record { files = []; reads = no_faults; writes = no_faults }

-- whether the next read fails if it is of this name
abbrev pub read_fails : MemShelfState → List ℕ → Bool
read_fails s name = is_some (due s.reads) || is_none (names_of s.files name)

-- the shelf after a read
abbrev pub after_read : MemShelfState → List ℕ → MemShelfState
after_read s name =
    record s { reads = if read_fails s name then failed (called s.reads) else called s.reads }

-- the shelf after a write that came through
abbrev pub after_write : MemShelfState → List ℕ → List ℕ → MemShelfState
after_write s name bytes = record s { files = stored s.files name bytes; writes = called s.writes }

-- the shelf after a write that failed and kept so many bytes
abbrev pub after_failed_write : MemShelfState → List ℕ → List ℕ → ℕ → MemShelfState
after_failed_write s name bytes kept =
    record s { files = stored s.files name (take kept bytes); writes = failed (called s.writes) }

-- a sink in memory, and how often it wanted memory
pub record MemSinkState : Type 0 where
  pub text : List ℕ
  pub puts : Faults
  pub lacks : ℕ
