use Rattle.std.proofs.Common.{◌≤◌, ◌+◌, ◌-◌, vec_len}
use Rattle.std.specs.Io.KnownBytes.{Consumes}
use Rattle.ih_shelf.proofs.transfer.read_within.Given as goal

abbrev pub invariant-loop-most : goal.invariant-loop-most
invariant-loop-most g l = record {
  within : vec_len l.bytes ≤ l.limit;
  taken : Consumes (g.F.Read.remaining l.fn.file) (g.F.Read.remaining l.file) l.bytes.items;
}

abbrev pub decreases-loop-most : goal.decreases-loop-most
decreases-loop-most g l = (l.limit + 1) - vec_len l.bytes
