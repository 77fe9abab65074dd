-- A part of a history, copied out of a book.
use Rattle.std.specs.Prelude.{ℕ, List}
use Rattle.ih_journal.specs.Tried.{Tried}

-- The entries from a place on, and how many the book had when they were copied.
pub record BufferState : Type 0 where
  pub from : ℕ
  pub entries : List Tried
  pub front : ℕ

-- the most entries of one copy
abbrev pub most_copied : ℕ
most_copied = 256
