-- What is known of each worker beside the history.
use Rattle.std.specs.Prelude.{◌≡◌, ◌↔◌, ℕ, ◌+◌, ◌≤◌, List, length, Some, slice_get, if◌then◌else◌}
use Rattle.ih_tables.specs.declared.drafts.Draft.{Draft}
use Rattle.ih_plan.specs.Timetable.{Timetable}
use Rattle.ih_plan.specs.Draws.{draw_at, move_of, state_after, stream_at}
use Rattle.ih_journal.specs.declared.settings.Options.{Options}
use Rattle.ih_journal.specs.Tried.{Tried}
use Rattle.ih_journal.specs.Attempts.{try_after, is_retried, last_by}
use Rattle.ih_journal.specs.Base.{Base}
use Rattle.ih_journal.specs.Legal.{AreLegal}
use Rattle.ih_cellbook.specs.Keeping.{IsBase}
use Rattle.ih_cellbook.specs.Offers.{HasSeenOwn}
use Rattle.ih_cellbook.specs.BookState.{BookState}
use Rattle.ih_cellbook.specs.Replicas.{IsReplicaIn}
use Rattle.ih_replay.specs.declared.workers.ReplayWorker.{ReplayWorker}

-- The worker's next attempt with its draw, what it must have seen, and a replica that stands for a part of the history.
pub record IsWorkerIn (b : Base) (H : List Tried) (w : ℕ) (x : ReplayWorker) : Type 0 where
  pub replica : IsReplicaIn b H x.replica
  pub own : x.replica.worker ≡ w
  pub attempt : try_after b.options (last_by w H) ≡ record { number = x.number; again = x.again }
  pub draw : x.draw ≡ move_of b.instance b.options.seed w x.number
  pub stream : x.stream ≡ stream_at b.options.seed w (x.number + 1)
  -- the place behind the worker's last entry
  pub own_end : (n : ℕ) → (x.own_end ≤ n) ↔ HasSeenOwn H w n

-- The worker after an entry of its next attempt, at the place before `own_end`: it tries the draw again, or draws the
-- next one.
abbrev pub gone_on : Draft → Options → ReplayWorker → Tried → ℕ → ReplayWorker
gone_on I o x e own_end =
    if is_retried o e then record x { again = x.again + 1; own_end = own_end }
    else record x {
      number = x.number + 1;
      again = 0;
      draw = draw_at I x.stream;
      stream = state_after 6 x.stream;
      own_end = own_end;
    }

-- The history is legal, and each worker's own is kept.
pub record IsReplayed (b : Base) (H : List Tried) (xs : List ReplayWorker) : Type 0 where
  pub base : IsBase b
  pub legal : AreLegal b 1 H
  pub many : length xs ≡ b.options.workers
  pub each : (w : ℕ) (x : ReplayWorker) → slice_get xs w ≡ Some x → IsWorkerIn b H w x

-- What a replay keeps beside its book is of the search over that instance, start and options.
pub record IsReplay (I : Draft) (P : Timetable) (o : Options) (v : BookState) (xs : List ReplayWorker) : Type 0 where
  pub instance : v.base.instance ≡ I
  pub start : v.base.start ≡ P
  pub options : v.base.options ≡ o
  pub kept : IsReplayed v.base v.entries xs
