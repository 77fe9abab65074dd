use Rattle.std.proofs.Common.{arith}
use Rattle.ih_cellbook.proofs.counters.compare.Goals as goal

pub cell-requires : goal.cell-requires
cell-requires c = let inside = c.in-Some.ensures.inside in let count = c.requires.count in rw c.of.ensures (omega (arith, inside, count))
