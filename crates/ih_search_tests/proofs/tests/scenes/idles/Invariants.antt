use Rattle.std.proofs.Common.{◌≡◌}
use Rattle.ih_cellbook.specs.Replicas.{IsReplicaIn}
use Rattle.ih_search_tests.proofs.tests.scenes.idles.Given as goal

abbrev pub invariant-loop-number : goal.invariant-loop-number
invariant-loop-number l = record {
  base : l.book.base ≡ l.fn.book.base;
  replica : IsReplicaIn l.book.base l.book.entries l.replica;
}
