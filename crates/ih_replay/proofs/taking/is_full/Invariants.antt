use Rattle.std.proofs.Common.{◌≡◌, ℕ, ◌<◌, true}
use Rattle.ih_journal.specs.Attempts.{is_done}
use Rattle.ih_replay.proofs.taking.is_full.Given as goal

-- the workers so far have made all their attempts
abbrev pub invariant-loop-worker : goal.invariant-loop-worker
invariant-loop-worker l = record {
  done : (w : ℕ) → w < l.worker-index → is_done l.book.base.options l.book.entries w ≡ true;
}
