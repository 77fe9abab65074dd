use Rattle.std.proofs.Common.{map, ◌≡◌, List, ◌++◌, take}
use Rattle.ih_journal.specs.Tried.{Tried}
use Rattle.ih_journal.specs.Base.{Base}
use Rattle.ih_cellbook.specs.Legal.{AreLegalButDraws}
use Rattle.ih_cellbook.specs.Replicas.{IsReplicaOf}
use Rattle.ih_snapshot.proofs.replicas.Replica.advance.Given as goal

-- it stands for the entries that were taken over so far
abbrev pub invariant-loop-entry : goal.invariant-loop-entry
invariant-loop-entry g l = record {
  stands : (b : Base) (H : List Tried) → IsReplicaOf b H l.fn.self → AreLegalButDraws b (H ++ (map g.E.Logged.tried l.entries))
      → IsReplicaOf b (H ++ take l.entry-index (map g.E.Logged.tried l.entries)) l.self;
  base : l.self.base ≡ l.fn.self.base;
  worker : l.self.worker ≡ l.fn.self.worker;
}
