use Rattle.std.proofs.Common.{◌++◌, ◌∷◌, [], ◌∙◌, ap, append_assoc, rules, sym, subst}
use Rattle.std.specs.Prelude.{IfOk}
use Rattle.std.specs.List.{AllZip}
use Rattle.std.specs.Vec.Iter.{into_iter_items}
use Rattle.ih_desk.specs.Searching.{base_given}
use Rattle.ih_desk.specs.WorkerLoops.{IsNew}
use Rattle.ih_desk.specs.Workers.{IsNewWorker}
use Rattle.ih_desk.proofs.SeatLemmas.{zip-last}
use Rattle.ih_desk.proofs.whole_search.seat_workers.Goals as goal

pub loop-seat-preserved : goal.loop-seat-preserved
loop-seat-preserved g c =
    let new = IsNewWorker (base_given c.args.given.now) c.args.each in
    let before = c.loop-seat.invariant in
    let b = base_given c.args.given.now in
    let opened = subst (λ n. IfOk c.open-opened.result (IsNew b c.args.each n)) c.number.ensures c.open-opened.ensures in
    record {
      each = subst (λ ws. AllZip new ws (c.loop-seat.yielded ++ c.in-Some.seat ∷ [])) (sym c.in_ok-push.ensures.items)
          (zip-last new c.loop-seat.workers.items c.loop-seat.yielded c.in-Ok.worker c.in-Some.seat before.each (c.in-Ok.ensures.new b c.args.each opened));
      rest = before.rest ∙ (ap (λ xs. c.loop-seat.yielded ++ xs) (search rules) ∙ sym (append_assoc c.loop-seat.yielded (c.in-Some.seat ∷ []) (into_iter_items c.next.new.self)));
    }
