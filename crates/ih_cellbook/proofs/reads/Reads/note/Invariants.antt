use Rattle.std.proofs.Common.{◌≡◌, take}
use Rattle.std.specs.Prelude.{slice_index}
use Rattle.ih_plan.specs.Sums.{tagged}
use Rattle.ih_cellbook.proofs.reads.Reads.note.Given as goal

abbrev pub invariant-loop-cell : goal.invariant-loop-cell
invariant-loop-cell l = record {
  room : l.self.room ≡ l.fn.self.room;
  pairs : l.self.pairs ≡ tagged (slice_index l.versions) (take l.cell-index l.cells);
}
