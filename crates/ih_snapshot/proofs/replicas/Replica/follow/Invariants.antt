use Rattle.std.proofs.Common.{map, ◌≡◌, List, ◌++◌, drop}
use Rattle.ih_journal.specs.Tried.{Tried}
use Rattle.ih_journal.specs.Base.{Base}
use Rattle.ih_cellbook.specs.Legal.{AreLegalButDraws}
use Rattle.ih_cellbook.specs.Replicas.{IsReplicaOf}
use Rattle.ih_cellbook.specs.News.{accepted_of}
use Rattle.ih_snapshot.proofs.Following.{HasCome}
use Rattle.ih_snapshot.proofs.replicas.Replica.follow.Given as goal

-- it has come to the accepted entries that are left
abbrev pub invariant-loop-entry : goal.invariant-loop-entry
invariant-loop-entry g l = record {
  come : (b : Base) (H es : List Tried) → IsReplicaOf b H l.fn.self → AreLegalButDraws b (H ++ es) → map g.E.Logged.tried l.accepted ≡ accepted_of es
      → HasCome b (H ++ es) (drop l.entry-index (map g.E.Logged.tried l.accepted)) l.self;
  base : l.self.base ≡ l.fn.self.base;
  worker : l.self.worker ≡ l.fn.self.worker;
}
