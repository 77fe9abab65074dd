use Rattle.std.proofs.Common.{◌≡◌}
use Rattle.ih_cellbook.specs.Replicas.{IsReplicaIn}
use Rattle.ih_search_tests.proofs.tests.scenes.step_all.Given as goal

-- the replica follows the book
abbrev pub invariant-loop-line : goal.invariant-loop-line
invariant-loop-line l = record {
  base : l.book.base ≡ l.fn.book.base;
  replica : IsReplicaIn l.book.base l.book.entries l.replica;
}
