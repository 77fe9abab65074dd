-- What a clause says of a turn, of its seats, and of a value in the hands of a seat.
use Rattle.std.specs.Prelude.{◌≡◌, ℕ, List}
use Rattle.ih_turn.specs.declared.kept.Kept.{Ghosts}
use Rattle.ih_turn.specs.declared.seat.Seat.{Seat}
use Rattle.ih_turn.specs.declared.turn.RuledTurn.{RuledTurn}
use Rattle.ih_turn.specs.declared.held.Holder.{Holder}
use Rattle.ih_turn.specs.declared.held.Guard.{Guard}
use Rattle.ih_turn.specs.Rule.{IsViewOf, made_by}

module _ {B E D P : Type 0} {k : Ghosts B E D} where
  -- the value that the turn was made with
  abbrev pub opened_with : RuledTurn B P E D k → B
  opened_with turn = turn.table.shared.key.opening.value

  -- how many seats the turn was made with
  abbrev pub seat_count : RuledTurn B P E D k → ℕ
  seat_count turn = turn.table.shared.key.seats

module _ {B E D : Type 0} {k : Ghosts B E D} where
  -- the seat's number
  abbrev pub number_of : Seat B E D k → ℕ
  number_of seat = seat.number

  -- the list that the seat has seen
  abbrev pub history : Seat B E D k → List E
  history seat = seat.token.me.0.seen

  -- how many entries of its history were added since the turn was made and have the seat's number as their maker
  abbrev pub made_count : Seat B E D k → ℕ
  made_count seat = made_by k.maker seat.token.me.0

  -- how many turns the seat has left
  abbrev pub turns_left : Seat B E D k → ℕ
  turns_left seat = seat.left

  -- the seat is one of this turn's
  abbrev pub IsSeatOf : {P : Type 0} → RuledTurn B P E D k → Seat B E D k → Type 0
  IsSeatOf turn seat = (seat.token.table_id ≡ turn.table.shared.table_id)
      × IsViewOf k.entries k.base (opened_with turn) seat.token.me.0

-- the value that is held
abbrev pub value_of : {H B : Type 0} → Guard H B → B
value_of held = held.value

module _ {B E D P : Type 0} {k : Ghosts B E D} where
  -- the turn that the value was taken from
  abbrev pub turn_of : Guard (Holder B P E D k) B → RuledTurn B P E D k
  turn_of held = held.holder.turn.now

  -- the number of the seat that has the turn
  abbrev pub holder_number : Guard (Holder B P E D k) B → ℕ
  holder_number held = held.holder.number

  -- how many entries that seat had made before
  abbrev pub holder_made : Guard (Holder B P E D k) B → ℕ
  holder_made held = made_by k.maker held.holder.token.me.0

  -- how many turns that seat has left after this one
  abbrev pub holder_left : Guard (Holder B P E D k) B → ℕ
  holder_left held = held.holder.left

  -- the list of the value when it was taken
  abbrev pub list_at_take : Guard (Holder B P E D k) B → List E
  list_at_take held = held.holder.token.me.0.seen
