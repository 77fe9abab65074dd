use Rattle.std.proofs.Common.{◌≡◌, ℕ, ◌+◌, take, length}
use Rattle.std.specs.Prelude.{slice_index}
use Rattle.ih_snapshot.specs.Noting.{times_listed}
use Rattle.ih_snapshot.proofs.versions.raise.Given as goal

abbrev pub invariant-loop-cell : goal.invariant-loop-cell
invariant-loop-cell l = record {
  len : length l.versions ≡ length l.initial.versions;
  each : (n : ℕ) → slice_index l.versions n ≡ slice_index l.initial.versions n + times_listed n (take l.cell-index l.cells);
}
