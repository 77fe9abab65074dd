-- What is seen of a worker's loop.
use Rattle.std.specs.Prelude.{ℕ, List}
use Rattle.ih_tables.specs.declared.drafts.Draft.{Draft}
use Rattle.ih_journal.specs.declared.settings.Options.{Options}
use Rattle.ih_cellbook.specs.ReplicaState.{ReplicaState}
use Rattle.ih_cellbook.specs.News.{NewsState}

-- How far a worker has come in its search.
pub record WorkerLoopState : Type 0 where
  pub instance : Draft
  pub options : Options
  -- how many moves each of its attempts has
  pub moves_each : ℕ
  -- its draws to come
  pub stream : List ℕ
  pub replica : ReplicaState
  -- what its last turn told
  pub news : NewsState
