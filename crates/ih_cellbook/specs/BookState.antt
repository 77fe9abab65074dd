-- What is seen of a book: all else that it tells follows from this.
use Rattle.std.specs.Prelude.{List}
use Rattle.ih_journal.specs.Tried.{Tried}
use Rattle.ih_journal.specs.Base.{Base}

-- What the search was begun with, and the entries so far.
pub record BookState : Type 0 where
  pub base : Base
  pub entries : List Tried
