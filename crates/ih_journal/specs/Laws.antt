-- Laws of full histories of one worker.
use Rattle.std.specs.Prelude.{◌≡◌, ℕ, false, List, length, Some, slice_get}
use Rattle.ih_journal.specs.Tried.{Tried}
use Rattle.ih_journal.specs.Attempts.{is_stale}
use Rattle.ih_journal.specs.Base.{Base}
use Rattle.ih_journal.specs.Legal.{AreLegal, IsFull}

-- none of the entries is stale
abbrev pub HasNoneStale : List Tried → Type 0
HasNoneStale H = (k : ℕ) (e : Tried) → slice_get H k ≡ Some e → is_stale e.verdict ≡ false

-- what one worker offers is never stale
abbrev pub LoneWorkersAreNeverStale : Type 0
LoneWorkersAreNeverStale = (b : Base) (each : ℕ) (H : List Tried)
    → b.options.workers ≡ 1 → AreLegal b each H → HasNoneStale H

-- a full history of one worker has an entry for each attempt
abbrev pub LoneWorkersMakeEachAttemptOnce : Type 0
LoneWorkersMakeEachAttemptOnce = (b : Base) (each : ℕ) (H : List Tried)
    → b.options.workers ≡ 1 → IsFull b each H → length H ≡ b.options.moves

-- one worker has one full history
abbrev pub LoneWorkersHaveOneHistory : Type 0
LoneWorkersHaveOneHistory = (b : Base) (each : ℕ) (H G : List Tried)
    → b.options.workers ≡ 1 → IsFull b each H → IsFull b each G → H ≡ G
