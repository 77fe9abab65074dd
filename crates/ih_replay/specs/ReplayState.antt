-- What is seen of a replay, and the entries that single moves stand for.
use Rattle.std.specs.Prelude.{List, [], ◌∷◌, map}
use Rattle.ih_plan.specs.declared.moves.Move.{Move}
use Rattle.ih_plan.specs.declared.moves.Move.TheVariants.{Idle}
use Rattle.ih_journal.specs.declared.entries.Entry.{Entry}
use Rattle.ih_journal.specs.Tried.{Tried}
use Rattle.ih_journal.specs.Base.{Base}
use Rattle.ih_cellbook.specs.BookState.{BookState}

-- What the replay was begun with, and the entries that were taken so far.
pub record ReplayState : Type 0 where
  pub base : Base
  pub entries : List Entry

abbrev pub first_of : List Move → Move
first_of [] = Idle
first_of (m ∷ ms) = m

-- The entry that stands for what is tried, where that is one move.
abbrev pub single : Tried → Entry
single e = record {
  worker = e.worker;
  number = e.number;
  again = e.again;
  seen = e.seen;
  mv = first_of e.moves;
  price = e.price;
  verdict = e.verdict;
}

-- the entries that each stand for what is tried
abbrev pub singles : List Tried → List Entry
singles es = map single es

-- the replay over a book of single moves
abbrev pub replayed_of : BookState → ReplayState
replayed_of v = record { base = v.base; entries = singles v.entries }
