use Rattle.std.proofs.Common.{◌<◌, ◌∙◌, ap, sym, subst, map, length}
use Rattle.std.proofs.Math.ListN.{get_or-map}
use Rattle.std.proofs.lemmas.List.{length-map}
use Rattle.ih_snapshot.specs.Keeping.{CanTake, HasTaken}
use Rattle.ih_snapshot.proofs.Advancing.{can-next, stands-next}
use Rattle.ih_snapshot.proofs.replicas.Replica.advance.Goals as goal

pub take_over-requires : goal.take_over-requires
take_over-requires g c =
    let b = c.requires.follow.0 in
    let H = c.requires.follow.1 in
    let es = c.args.entries.now in
    let inside : c.loop-entry.entry-index < length (map g.E.Logged.tried es) = subst (λ n. c.loop-entry.entry-index < n) (sym (length-map es g.E.Logged.tried)) c.loop-entry-test.true in
    subst (CanTake c.loop-entry.self) (get_or-map g.E.Logged.tried es c.loop-entry.entry-index c.entry-item.result ∙ ap g.E.Logged.tried (sym c.entry-item.is))
    (can-next b H (map g.E.Logged.tried es) c.loop-entry.entry-index (g.E.Logged.tried c.entry-item.result) c.loop-entry.self
    (c.loop-entry.invariant.stands b H c.requires.follow.2 c.requires.follow.3) c.requires.follow.3 inside)

pub loop-entry-preserved : goal.loop-entry-preserved
loop-entry-preserved g c = record {
  stands = λ b H stands legal.
      let es = c.args.entries.now in
      let inside : c.loop-entry.entry-index < length (map g.E.Logged.tried es) = subst (λ n. c.loop-entry.entry-index < n) (sym (length-map es g.E.Logged.tried)) c.loop-entry-test.true in
      stands-next b H (map g.E.Logged.tried es) c.loop-entry.entry-index (g.E.Logged.tried c.entry-item.result) c.loop-entry.self
      (c.loop-entry.invariant.stands b H stands legal) legal inside c.take_over.new.self
      (subst (λ e. HasTaken c.loop-entry.self e c.take_over.new.self)
      (ap g.E.Logged.tried c.entry-item.is ∙ sym (get_or-map g.E.Logged.tried es c.loop-entry.entry-index c.entry-item.result)) c.take_over.ensures);
  base = c.take_over.ensures.base ∙ c.loop-entry.invariant.base;
  worker = c.take_over.ensures.worker ∙ c.loop-entry.invariant.worker;
}
