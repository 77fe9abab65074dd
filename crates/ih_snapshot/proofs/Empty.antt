-- A new replica stands for the empty history.
use Rattle.std.proofs.Common.{◌≡◌, ℕ, arith, refl, List, [], inl}
use Rattle.std.specs.Prelude.{replicate}
use Rattle.ih_tables.specs.Bills.{feasible, cost}
use Rattle.ih_plan.specs.BillOf.{bill_of}
use Rattle.ih_plan.specs.Cells.{cell_count}
use Rattle.ih_journal.specs.Base.{Base}
use Rattle.ih_journal.specs.Best.{best_with}
use Rattle.ih_journal.specs.History.{after_entries}
use Rattle.ih_cellbook.specs.Keeping.{IsBase, AreVersions}
use Rattle.ih_cellbook.proofs.Committing.{legal_but-none}
use Rattle.ih_cellbook.proofs.BookKeeping.{kept-none}
use Rattle.ih_cellbook.specs.Replicas.{IsReplicaOf}
use Rattle.ih_cellbook.specs.ReplicaState.{ReplicaState}
use Rattle.std.proofs.Common.{None}

-- each version is 0
zero-versions : (b : Base) (vs : List ℕ) → IsBase b → vs ≡ replicate (cell_count b.instance) 0 → AreVersions b [] vs
zero-versions b vs base zeros =
    (kept-none b vs (replicate b.options.workers 0) (bill_of b.instance b.start)
    (best_with None 0 (feasible (bill_of b.instance b.start)) (cost b.instance.weights (bill_of b.instance b.start))) base zeros refl refl refl).versions

pub stands-empty : (b : Base) (r : ReplicaState) → IsBase b → r.base ≡ b → r.seen ≡ 0 → r.plan ≡ b.start → r.versions ≡ replicate (cell_count b.instance) 0
    → r.last.seen ≡ 0 → r.last.reads.pairs ≡ [] → IsReplicaOf b [] r
unfolding after_entries
stands-empty b r base own seen plan zeros last_seen none = record {
  base = own;
  lawful = base;
  legal = legal_but-none b;
  seen = seen;
  plan = plan;
  versions = zero-versions b r.versions base zeros;
  last = record {
    seen = omega (arith, last_seen);
    reads = inl none;
  };
}
