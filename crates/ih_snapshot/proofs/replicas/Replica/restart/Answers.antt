use Rattle.std.proofs.Common.{◌∙◌, refl, ap, sym, subst, []}
use Rattle.std.specs.Prelude.{length, replicate}
use Rattle.std.specs.Vec.{with_items}
use Rattle.std.proofs.lemmas.List.{with_items_is}
use Rattle.ih_cellbook.specs.Keeping.{base_with}
use Rattle.ih_cellbook.specs.ReadsState.{ReadsState}
use Rattle.ih_costs.specs.LedgersState.{LedgersState}
use Rattle.ih_cellbook.specs.Replicas.{IsReplicaOf}
use Rattle.ih_cellbook.specs.ReplicaState.{ReplicaState}
use Rattle.ih_snapshot.proofs.Empty.{stands-empty}
use Rattle.ih_snapshot.proofs.replicas.Replica.restart.Goals as goal

pub returns-clause-replica : goal.returns-clause-replica
returns-clause-replica g c =
    let here = ap length c.as_mut_slice.ensures.value in
    let s : ReplicaState = record {
      base = base_with c.self.inside.inst.now.draft c.self.inside.start c.self.inside.options c.self.inside.freeze;
      worker = c.self.inside.worker;
      seen = 0;
      plan = c.copy_from.new.self.plan;
      versions = (with_items c.self.inside.versions c.fill.new.self).items;
      last = g.E.Offer.Offers.offered c.reset.new.self;
    } in
    subst (λ (r : ReplicaState). IsReplicaOf r.base [] s) c.self.view_is
    (stands-empty s.base s c.self.invariant.0.base refl refl
    (ap (λ (l : LedgersState). l.plan) c.copy_from.ensures)
    (with_items_is c.self.inside.versions c.fill.new.self (c.fill.ensures.len ∙ here ∙ sym c.self.inside.versions.ok.0)
    ∙ c.fill.ensures.after (λ y e. e) ∙ ap (λ n. replicate n 0) (here ∙ c.self.invariant.0.versions))
    c.reset.ensures.seen
    (ap (λ (v : ReadsState). v.pairs) c.reset.ensures.reads))
