-- A turn at a desk: what is asked of a seat, and what the seat is afterwards.
use Rattle.std.specs.Prelude.{◌≡◌, ℕ, ◌+◌, ◌<◌, ◌≤◌, length}
use Rattle.ih_turn.specs.Rule.{GoesOn}
use Rattle.ih_turn.specs.Seats.{history, number_of, made_count, turns_left}
use Rattle.ih_journal.specs.declared.entries.Verdict.{Verdict}
use Rattle.ih_cellbook.specs.Offered.{Offered}
use Rattle.ih_cellbook.specs.Offers.{IsRightOffer}
use Rattle.ih_desk.specs.Desks.{Desk, DeskSeat, IsSeatAt, base_of}
use Rattle.ih_desk.specs.Histories.{EndsWith}

-- The seat may look at what stands from a place on.
pub record MayLook (desk : Desk) (from : ℕ) (seat : DeskSeat) : Type 0 where
  pub own : IsSeatAt desk seat
  pub left : 0 < turns_left seat
  pub within : from ≤ length (history seat)

-- By one of its turns the seat has seen the whole history, and has made nothing.
pub record HasLooked (desk : Desk) (before after : DeskSeat) : Type 0 where
  pub own : IsSeatAt desk after
  pub number : number_of after ≡ number_of before
  pub goes_on : GoesOn (λ e. e.worker) (number_of before) (history before) (history after)
  pub made : made_count after ≡ made_count before
  pub left : turns_left after + 1 ≡ turns_left before

-- The seat's worker may offer this.
pub record MayOffer (desk : Desk) (o : Offered) (seat : DeskSeat) : Type 0 where
  pub own : IsSeatAt desk seat
  pub left : 0 < turns_left seat
  pub worker : o.worker ≡ number_of seat
  pub right : IsRightOffer (base_of desk) (history seat) o

-- By one of the seat's turns this was offered, with this verdict: the history that the seat has seen ends with its
-- entry.
pub record HasOffered (desk : Desk) (o : Offered) (verdict : Verdict) (before after : DeskSeat) : Type 0 where
  pub own : IsSeatAt desk after
  pub number : number_of after ≡ number_of before
  pub ends : EndsWith (base_of desk) o verdict (history before) (history after)
  pub made : made_count after ≡ made_count before + 1
  pub left : turns_left after + 1 ≡ turns_left before
