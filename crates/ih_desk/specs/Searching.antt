-- A search of workers at one desk: what it is given, and who sits where.
use Rattle.std.specs.Prelude.{◌≡◌, ℕ, ◌<◌, List, [], ◌++◌, length, map, slice_index, slice_index_or, All}
use Rattle.std.specs.List.{AllZip}
use Rattle.ih_journal.specs.Base.{Base}
use Rattle.ih_turn.specs.Seats.{history, number_of, made_count, turns_left}
use Rattle.ih_cellbook.specs.Keeping.{base_with}
use Rattle.ih_desk.specs.declared.given.Given.{Given}
use Rattle.ih_desk.specs.Desks.{Desk, DeskSeat, IsDesk, IsSeatAt, base_of, worker_count}
use Rattle.ih_desk.specs.Workers.{HasWorked, Holds, Worker, enough_turns}

-- what a search works on that is given this
abbrev pub base_given : Given → Base
base_given g = base_with g.inst.now.draft g.start.now g.options g.freeze

-- a seat of the desk that has seen and made nothing, with all its turns left
pub record IsFresh (desk : Desk) (s : DeskSeat) : Type 0 where
  pub own : IsSeatAt desk s
  pub history : history s ≡ []
  pub made : made_count s ≡ 0
  pub turns : turns_left s ≡ enough_turns (base_of desk).options

-- The desk was opened for a search over b, and these are its seats, by number.
pub record IsOpened (b : Base) (desk : Desk) (seats : List DeskSeat) : Type 0 where
  pub stands : IsDesk desk
  pub base : base_of desk ≡ b
  pub count : worker_count desk ≡ b.options.workers
  pub many : length seats ≡ b.options.workers
  pub numbers : (k : ℕ) → k < b.options.workers → slice_index (map number_of seats) k ≡ k
  pub fresh : All (IsFresh desk) seats

-- Each worker has done its search.
pub record HaveFinished (desk : Desk) (old new : List Worker) : Type 0 where
  pub len : length new ≡ length old
  pub each : (k : ℕ) (d : Worker) → k < length old → HasWorked desk (slice_index_or old k d) (slice_index_or new k d)

-- The seats of the workers came behind those that were there, in the order of the workers.
pub record HaveLeft (workers : List Worker) (old new : List DeskSeat) : Type 0 where
  pub added : List DeskSeat
  pub joins : new ≡ old ++ added
  pub each : AllZip Holds workers added
