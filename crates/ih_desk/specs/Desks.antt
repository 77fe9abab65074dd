-- What a clause says of a desk and of its seats.
use Rattle.std.specs.Prelude.{[], ◌≡◌, ℕ, ◌<◌, ◌==◌, count_by}
use Rattle.ih_turn.specs.declared.kept.Kept.{Ghosts}
use Rattle.ih_turn.specs.declared.seat.Seat.{Seat}
use Rattle.ih_turn.specs.Seats.{opened_with, seat_count, history, number_of, made_count, IsSeatOf}
use Rattle.ih_journal.specs.Tried.{Tried}
use Rattle.ih_journal.specs.Base.{Base}
use Rattle.ih_cellbook.specs.Legal.{AreLegalButDraws}
use Rattle.ih_cellbook.specs.BookState.{BookState}
use Rattle.ih_turn.specs.declared.turn.RuledTurn.{RuledTurn}
use Rattle.ih_turn.specs.declared.rule.TurnRule.{TurnRule}
use Rattle.ih_desk.specs.declared.desk.DeskOver.{DeskOver}

-- a book as what a turn keeps
abbrev pub kept_book : Ghosts BookState Tried Base
kept_book = record { entries = λ k. k.entries; base = λ k. k.base; maker = λ e. e.worker }

-- a desk over a turn of a book, whatever type keeps the book's entries
abbrev pub Desk : Type 0
Desk = DeskOver (RuledTurn BookState (TurnRule BookState) Tried Base kept_book)

-- what the desk's book was opened with
abbrev pub base_of : Desk → Base
base_of desk = (opened_with desk.turn).base

-- how many workers the desk has, each with a seat
abbrev pub worker_count : Desk → ℕ
worker_count desk = (base_of desk).options.workers

-- The desk was opened over a book without entries, with a seat for each worker.
pub record IsDesk (desk : Desk) : Type 0 where
  pub opened : (opened_with desk.turn).entries ≡ []
  pub workers : seat_count desk.turn ≡ worker_count desk

-- a seat at a desk
abbrev pub DeskSeat : Type 0
DeskSeat = Seat BookState Tried Base kept_book

-- The seat is one of this desk's, and what it has seen is legal but for its draws, at every place.
pub record IsSeatAt (desk : Desk) (seat : DeskSeat) : Type 0 where
  pub stands : IsDesk desk
  pub own : IsSeatOf desk.turn seat
  pub number : number_of seat < worker_count desk
  pub legal : AreLegalButDraws (base_of desk) (history seat)
  -- what it made is all that the history which it has seen has by its worker
  pub made : made_count seat ≡ count_by (λ e. e.worker == number_of seat) (history seat)
