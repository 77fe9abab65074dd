use Rattle.std.proofs.Common.{◌≡◌, ℕ, ◌+◌, take, length}
use Rattle.std.specs.Prelude.{slice_index}
use Rattle.ih_cellbook.specs.Counters.{times_read}
use Rattle.ih_cellbook.proofs.counters.raise_read.Given as goal

abbrev pub invariant-loop-cell : goal.invariant-loop-cell
invariant-loop-cell l = record {
  len : length l.counters ≡ length l.initial.counters;
  each : (n : ℕ) → slice_index l.counters n ≡ slice_index l.initial.counters n + times_read n (take l.cell-index l.reads);
}
