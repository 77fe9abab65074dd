use Rattle.std.proofs.Common.{◌≡◌, drop}
use Rattle.std.specs.Prelude.{slice_index}
use Rattle.ih_cellbook.specs.Counters.{first_differing}
use Rattle.ih_cellbook.proofs.counters.first_differing.Given as goal

abbrev pub invariant-loop-cell : goal.invariant-loop-cell
invariant-loop-cell l = first_differing (slice_index l.counters) (drop l.cell-index l.reads) ≡ first_differing (slice_index l.counters) l.reads
