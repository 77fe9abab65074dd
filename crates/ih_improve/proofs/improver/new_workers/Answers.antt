use Rattle.std.proofs.Common.{◌∙◌, ◌∷◌, [], All, arith, subst, sym}
use Rattle.std.proofs.lemmas.List.Elements.{All-append, All-cons, All-nil}
use Rattle.ih_improve.specs.Keeping.{IsOf, StandsOn}
use Rattle.ih_improve.proofs.improver.new_workers.Goals as goal

pub loop-preserved : goal.loop-preserved
loop-preserved c =
    let I = c.args.inst.now.draft in
    let P = c.args.plan.now in
    let w = c.in_ok-new.field-0 in
    let own = c.loop.invariant in
    record {
      len = (let more = c.push_reserved.ensures.len in let old = c.loop.workers.ok.0 in let new = c.push_reserved.new.self.ok.0 in let so_far = own.len in omega (arith, more, old, new, so_far));
      room = c.push_reserved.ensures.capacity ∙ own.room;
      instance = subst (All (IsOf I)) (sym c.push_reserved.ensures.items)
          (All-append (IsOf I) c.loop.workers.items (w ∷ []) own.instance (All-cons (IsOf I) w [] c.in_ok-new.ensures.instance (All-nil (IsOf I))));
      stands = subst (All (StandsOn P)) (sym c.push_reserved.ensures.items)
          (All-append (StandsOn P) c.loop.workers.items (w ∷ []) own.stands (All-cons (StandsOn P) w [] c.in_ok-new.ensures.stands (All-nil (StandsOn P))));
    }
