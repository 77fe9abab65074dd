use Rattle.std.proofs.Common.{◌≡◌, ◌<◌, ◌∙◌, arith, ap, refl, sym, subst, map, length, length-append, ◌++◌, drop, []}
use Rattle.std.proofs.Math.ListN.{get_or-map}
use Rattle.std.proofs.lemmas.List.{drop_all, length-map}
use Rattle.ih_cellbook.specs.Replicas.{IsReplicaOf}
use Rattle.ih_cellbook.specs.ReplicaState.{ReplicaState}
use Rattle.ih_snapshot.specs.Keeping.{CanTake, HasTaken}
use Rattle.ih_snapshot.proofs.Following.{HasCome, come-all, come-can, come-more, come-none}
use Rattle.ih_snapshot.proofs.replicas.Replica.follow.Goals as goal

pub loop-entry-init : goal.loop-entry-init
loop-entry-init g c = record {
  come = λ b H es stands legal are. come-none b H es (map g.E.Logged.tried c.args.accepted.now) c.args.self.now stands are;
  base = refl;
  worker = refl;
}

pub take_over-requires : goal.take_over-requires
take_over-requires g c =
    let es = c.requires.follow.0 in
    let up_to = c.requires.follow.1 in
    let may = c.requires.follow.2 in
    let told = c.args.accepted.now in
    let inside : c.loop-entry.entry-index < length (map g.E.Logged.tried told) = subst (λ n. c.loop-entry.entry-index < n) (sym (length-map told g.E.Logged.tried)) c.loop-entry-test.true in
    subst (CanTake c.loop-entry.self) (get_or-map g.E.Logged.tried told c.loop-entry.entry-index c.entry-item.result ∙ ap g.E.Logged.tried (sym c.entry-item.is))
    (come-can may.0 (may.1 ++ es) may.3 (map g.E.Logged.tried told) c.loop-entry.entry-index (g.E.Logged.tried c.entry-item.result) c.loop-entry.self
    (c.loop-entry.invariant.come may.0 may.1 es may.2 may.3 up_to.accepted_are) inside)

pub loop-entry-preserved : goal.loop-entry-preserved
loop-entry-preserved g c = record {
  come = λ b H es stands legal are.
      let told = c.args.accepted.now in
      let inside : c.loop-entry.entry-index < length (map g.E.Logged.tried told) = subst (λ n. c.loop-entry.entry-index < n) (sym (length-map told g.E.Logged.tried)) c.loop-entry-test.true in
      let same = ap g.E.Logged.tried c.entry-item.is ∙ sym (get_or-map g.E.Logged.tried told c.loop-entry.entry-index c.entry-item.result) in
      come-more b (H ++ es) legal (map g.E.Logged.tried told) c.loop-entry.entry-index (g.E.Logged.tried c.entry-item.result) c.loop-entry.self
      (c.loop-entry.invariant.come b H es stands legal are) inside c.take_over.new.self
      (subst (λ e. HasTaken c.loop-entry.self e c.take_over.new.self) same c.take_over.ensures);
  base = c.take_over.ensures.base ∙ c.loop-entry.invariant.base;
  worker = c.take_over.ensures.worker ∙ c.loop-entry.invariant.worker;
}

pub returns-clause-replica : goal.returns-clause-replica
returns-clause-replica g c es up_to b H stands legal =
    let told = c.args.accepted.now in
    let past = c.loop-entry-test.false in
    let len = length-map told g.E.Logged.tried in
    let none : drop c.loop-entry.entry-index (map g.E.Logged.tried told) ≡ [] = drop_all c.loop-entry.entry-index (map g.E.Logged.tried told) (omega (arith, past, len)) in
    let come = subst (λ left. HasCome b (H ++ es) left c.loop-entry.self) none (c.loop-entry.invariant.come b H es stands legal up_to.accepted_are) in
    let both = length-append H es in
    let seen = stands.seen in
    let until = up_to.place in
    let place : length (H ++ es) ≡ c.args.until = omega (arith, both, seen, until) in
    subst (λ (s : ReplicaState). IsReplicaOf b (H ++ es) (record s { seen = c.args.until })) (sym c.self.view_is)
    (subst (λ n. IsReplicaOf b (H ++ es) (record c.loop-entry.self { seen = n })) place (come-all b (H ++ es) legal c.loop-entry.self come))
