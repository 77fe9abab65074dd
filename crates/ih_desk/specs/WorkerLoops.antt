-- How far a worker's loop has come.
use Rattle.std.specs.Prelude.{◌≡◌, ℕ, ◌+◌, ◌<◌, false, List, [], ◌∷◌, ◌++◌}
use Rattle.ih_plan.specs.declared.moves.Move.{Move}
use Rattle.ih_plan.specs.Draws.{stream_at}
use Rattle.ih_plan.specs.Series.{AreMoves}
use Rattle.ih_journal.specs.Tried.{Tried}
use Rattle.ih_journal.specs.declared.entries.Verdict.{Verdict}
use Rattle.ih_journal.specs.declared.settings.Options.{Options}
use Rattle.ih_journal.specs.Attempts.{try_after, is_done_after, last_by}
use Rattle.ih_journal.specs.Base.{Base}
use Rattle.ih_journal.specs.Settings.{most_entries}
use Rattle.ih_turn.specs.Seats.{history, number_of, turns_left}
use Rattle.ih_cellbook.specs.Laws.{HasNoneBy}
use Rattle.ih_cellbook.specs.Offers.{HasSeenOwn}
use Rattle.ih_cellbook.specs.Replicas.{IsReplicaIn, IsReplicaOf}
use Rattle.ih_cellbook.specs.News.{TellsOf}
use Rattle.ih_desk.specs.Desks.{Desk, DeskSeat, IsSeatAt, base_of}
use Rattle.ih_desk.specs.WorkerLoopState.{WorkerLoopState}

-- The loop is worker w's in a search over b, by attempts of so many moves.
pub record IsLoopOf (b : Base) (each w : ℕ) (x : WorkerLoopState) : Type 0 where
  pub instance : x.instance ≡ b.instance
  pub options : x.options ≡ b.options
  pub each_is : x.moves_each ≡ each
  pub worker : x.replica.worker ≡ w

-- It prices on a beginning of the history H.
pub record IsWithin (b : Base) (each w : ℕ) (H : List Tried) (x : WorkerLoopState) : Type 0 where
  pub own : IsLoopOf b each w x
  pub replica : IsReplicaIn b H x.replica

-- It does, and has seen all that its worker made, so that its next price may be offered.
pub record HasCaughtUp (b : Base) (each w : ℕ) (H : List Tried) (x : WorkerLoopState) : Type 0 where
  pub within : IsWithin b each w H x
  pub seen : HasSeenOwn H w x.replica.seen

-- The news tell of H from where the replica stands.
abbrev pub IsToldOf : List Tried → WorkerLoopState → Type 0
IsToldOf H x = TellsOf H x.replica.seen x.news

-- nothing was drawn or seen yet
pub record IsNew (b : Base) (each w : ℕ) (x : WorkerLoopState) : Type 0 where
  pub own : IsLoopOf b each w x
  pub replica : IsReplicaOf b [] x.replica
  pub stream : x.stream ≡ stream_at b.options.seed w 0

-- The turns left and the entries seen, together. Each turn of a worker shows an entry at least that it hadn't seen, so
-- this never gets less; and there are at most `most_entries` to see.
abbrev pub credit : ℕ → WorkerLoopState → ℕ
credit left x = left + x.replica.seen

-- At this seat the worker may try these moves: it has caught up, and has turns for all that there may be to see.
pub record MayTry (desk : Desk) (seat : DeskSeat) (m : List Move) (x : WorkerLoopState) : Type 0 where
  pub own : IsSeatAt desk seat
  pub caught_up : HasCaughtUp (base_of desk) x.moves_each (number_of seat) (history seat) x
  pub moves : AreMoves (base_of desk).instance m
  pub turns : most_entries (base_of desk).options < credit (turns_left seat) x

-- worker w's next try is this one of the attempt with this number
pub record IsNext (o : Options) (H : List Tried) (w number again : ℕ) : Type 0 where
  pub attempt : try_after o (last_by w H) ≡ record { number = number; again = again }
  pub not_done : is_done_after o (last_by w H) ≡ false

-- H goes on from what was seen by one attempt of worker w, with entries of others before and behind
pub record HasAttempted (o : Options) (w n : ℕ) (m : List Move) (v : Verdict) (seen H : List Tried) : Type 0 where
  pub others : List Tried
  pub entry : Tried
  pub later : List Tried
  pub history : H ≡ ((seen ++ others) ++ entry ∷ []) ++ later
  pub none : HasNoneBy w others
  pub none_later : HasNoneBy w later
  pub worker : entry.worker ≡ w
  pub number : entry.number ≡ n
  pub again : entry.again ≡ (try_after o (last_by w seen)).again
  pub moves : entry.moves ≡ m
  pub verdict : entry.verdict ≡ v
