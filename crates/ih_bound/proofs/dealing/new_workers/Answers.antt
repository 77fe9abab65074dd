use Rattle.std.proofs.Common.{◌∙◌, arith}
use Rattle.std.proofs.lemmas.List.Elements.{All-push, All-same}
use Rattle.ih_bound.specs.Dealing.{HasFloors}
use Rattle.ih_bound.proofs.dealing.new_workers.Goals as goal

pub loop-preserved : goal.loop-preserved
loop-preserved c =
    let I = c.args.inst.now.draft in
    let own = c.loop.invariant in
    record {
      len = (let more = c.push_reserved.ensures.len in let old = c.loop.workers.ok.0 in let new = c.push_reserved.new.self.ok.0 in let so_far = own.len in omega (arith, more, old, new, so_far));
      room = c.push_reserved.ensures.capacity ∙ own.room;
      floors = λ rates. All-same (HasFloors I rates) _ _ c.push_reserved.ensures.items (All-push (HasFloors I rates) c.loop.workers.items c.in_ok-new.field-0 (own.floors rates) (c.in_ok-new.ensures rates));
    }
