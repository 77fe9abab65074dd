-- What a clause says of a worker.
use Rattle.std.specs.Prelude.{◌≡◌, ℕ, ◌+◌, ◌*◌, ◌≤◌, Some}
use Rattle.ih_turn.specs.Seats.{history, number_of, made_count, turns_left}
use Rattle.ih_journal.specs.Base.{Base}
use Rattle.ih_journal.specs.declared.settings.Options.{Options}
use Rattle.ih_journal.specs.Settings.{most_entries}
use Rattle.ih_desk.specs.declared.seated_workers.Seated.{Seated}
use Rattle.ih_desk.specs.Desks.{Desk, DeskSeat, IsSeatAt, base_of}
use Rattle.ih_desk.specs.Finishing.{HasFinished}
use Rattle.ih_desk.specs.WorkerLoopState.{WorkerLoopState}
use Rattle.ih_desk.specs.WorkerLoops.{IsNew}

-- The turns that a seat gets: four for each try of each attempt of each worker, and 16. One for each entry of the
-- history, and one more, would do.
abbrev pub enough_turns : Options → ℕ
enough_turns o = 4 * most_entries o + 16

-- a worker, whatever it prices on
abbrev pub Worker : Type 0
Worker = Seated WorkerLoopState DeskSeat

-- the worker has this seat
abbrev pub Holds : {S T : Type 0} → Seated S T → T → Type 0
Holds w s = w.seat ≡ Some s

-- The worker is as it was made for a search over b by attempts of so many moves, with this seat.
pub record IsNewWorker (b : Base) (each : ℕ) (w : Worker) (s : DeskSeat) : Type 0 where
  pub seat : Holds w s
  pub worker_loop : IsNew b each (number_of s) w.worker_loop

-- The worker is new, by attempts of so many moves, and its seat at this desk has made nothing and has turns enough.
pub record IsReady (each : ℕ) (desk : Desk) (w : Worker) : Type 0 where
  pub seat : DeskSeat
  pub new : IsNewWorker (base_of desk) each w seat
  pub own : IsSeatAt desk seat
  pub made : made_count seat ≡ 0
  pub turns : enough_turns (base_of desk).options ≤ turns_left seat

-- Afterwards it has a seat at this desk with the same number, and has finished by what that seat made.
pub record Finishes (each : ℕ) (desk : Desk) (before after : Worker) : Type 0 where
  pub first : DeskSeat
  pub last : DeskSeat
  pub held : Holds before first
  pub holds : Holds after last
  pub own : IsSeatAt desk last
  pub number : number_of last ≡ number_of first
  pub finished : HasFinished (base_of desk) each (number_of last) (history last)

-- both, by attempts of as many moves as the worker itself says
abbrev pub MayWork : Desk → Worker → Type 0
MayWork desk w = IsReady w.worker_loop.moves_each desk w

abbrev pub HasWorked : Desk → Worker → Worker → Type 0
HasWorked desk before after = Finishes before.worker_loop.moves_each desk before after
