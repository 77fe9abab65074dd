use Rattle.std.proofs.Common.{refl, ◌≡◌, ◌<◌, ◌∙◌, ap, arith, sym, subst, take, drop, Some, ◌++◌}
use Rattle.ih_turn.specs.Rule.{GoesOn}
use Rattle.ih_turn.specs.Seats.{history, number_of, turns_left}
use Rattle.ih_cellbook.specs.Laws.{HasNoneBy}
use Rattle.ih_cellbook.specs.Offered.{Offered}
use Rattle.ih_cellbook.specs.Offers.{HasSeenOwn, IsRightOffer, next_number}
use Rattle.ih_desk.specs.Desks.{base_of}
use Rattle.ih_cellbook.specs.Replicas.{IsReplicaIn}
use Rattle.ih_cellbook.specs.News.{TellsOf}
use Rattle.ih_cellbook.proofs.Within.{offered-right, seen-within, stands-behind, stands-same}
use Rattle.ih_desk.specs.WorkerLoopState.{WorkerLoopState}
use Rattle.ih_desk.specs.WorkerLoops.{IsLoopOf, IsWithin}
use Rattle.ih_desk.proofs.Attempting.{attempted, attempted-later}
use Rattle.ih_desk.proofs.CatchingUp.{ends-longer, has-turn, none-past}
use Rattle.ih_desk.proofs.worker_loop.WorkerLoop.try_once.Given.{Over}
use Rattle.ih_desk.proofs.worker_loop.WorkerLoop.try_once.Goals as goal

pub offer_and_look-seat-requires : goal.offer_and_look-seat-requires
offer_and_look-seat-requires g c =
    let b = base_of c.args.desk.now in
    let H = history c.args.seat in
    let r = g.C.Replicates.copied c.self.inside.replica in
    let within = subst (λ (x : WorkerLoopState). IsWithin b c.args.self.now.moves_each (number_of c.args.seat) H x) (sym c.self.view_is) c.requires.may.caught_up.within in
    let o = (g.C.Replicates.copied c.offer.new.self).last in
    let stands = within.replica in
    let seen = subst (λ (x : WorkerLoopState). HasSeenOwn H (number_of c.args.seat) x.replica.seen) (sym c.self.view_is) c.requires.may.caught_up.seen in
    let offered = c.offer.ensures.offer b (take r.seen H) stands in
    let own = sym (offered.worker ∙ within.own.worker) in
    let right = offered-right b H r stands c.args.attempt_no (g.C.Entry.Attempt.Attempted.moves c.args.attempt.now) o c.offer.ensures.offer c.offer.ensures.right (
      subst (λ w. w < b.options.workers) own c.requires.may.own.number,
      subst (λ w. next_number b.options H w ≡ Some o.number) own (c.requires.next ∙ ap (λ k. Some k) (sym offered.number)),
      subst (λ w. HasNoneBy w (drop o.seen H)) own (subst (λ k. HasNoneBy (number_of c.args.seat) (drop k H)) (stands.seen ∙ sym offered.seen) (none-past (number_of c.args.seat) r.seen H seen)),
    ) in
    record {
      may = record {
        own = c.requires.may.own;
        left = has-turn b H c.args.self.now.replica (turns_left c.args.seat) c.requires.may.caught_up.within.replica c.requires.may.turns;
        worker = ap (λ (x : Offered). x.worker) c.last.ensures ∙ (offered.worker ∙ within.own.worker);
        right = subst (IsRightOffer b H) (sym c.last.ensures) right;
      };
    }

-- where the replica stood
stood : (g : Over) (c : goal.After-catch_up-arg-1 g) → IsReplicaIn (base_of c.args.desk.now) (history c.args.seat) (g.C.Replicates.copied c.self.inside.replica)
stood g c = subst (λ (x : WorkerLoopState). IsReplicaIn (base_of c.args.desk.now) (history c.args.seat) x.replica) (sym c.self.view_is) c.requires.may.caught_up.within.replica

pub catch_up-seat-requires-clause-within : goal.catch_up-seat-requires-clause-within
catch_up-seat-requires-clause-within g c =
    let b = base_of c.args.desk.now in
    let H = history c.args.seat in
    let s = g.C.Replicates.copied c.offer.new.self in
    let own = subst (IsLoopOf b c.args.self.now.moves_each (number_of c.args.seat)) (sym c.self.view_is) c.requires.may.caught_up.within.own in
    let ends = c.offer_and_look-seat.ensures.offered.ends in
    record {
      own = record {
        instance = own.instance;
        options = own.options;
        each_is = refl;
        worker = c.offer.ensures.worker ∙ (own.worker ∙ sym c.offer_and_look-seat.ensures.offered.number);
      };
      replica = subst (λ G. IsReplicaIn b G s) (sym ends.history)
          (stands-behind b (H ++ ends.others) s (stands-behind b H s (stands-same b H _ (stood g c) s c.offer.ensures.same) ends.others) _);
    }

pub catch_up-seat-requires-clause-told : goal.catch_up-seat-requires-clause-told
catch_up-seat-requires-clause-told g c =
    let same = (c.offer.ensures.offer _ _ (stood g c)).seen ∙ sym (c.offer.ensures.same _ _ (stood g c)).seen in
    subst (λ n. TellsOf (history c.offer_and_look-seat.result.0) n c.offer_and_look-seat.new.news) (ap (λ (x : Offered). x.seen) c.last.ensures ∙ same)
    c.offer_and_look-seat.ensures.told

pub catch_up-seat-requires-clause-new : goal.catch_up-seat-requires-clause-new
catch_up-seat-requires-clause-new g c =
    let most = seen-within _ _ _ (stands-same _ _ _ (stood g c) _ c.offer.ensures.same) in
    let longer = ends-longer _ _ _ _ _ c.offer_and_look-seat.ensures.offered.ends in
    omega (arith, most, longer)

pub catch_up-seat-requires-clause-turns : goal.catch_up-seat-requires-clause-turns
catch_up-seat-requires-clause-turns g c =
    let same = (c.offer.ensures.same _ _ (stood g c)).seen ∙ sym (stood g c).seen in
    let before = ap (λ (x : WorkerLoopState). x.replica.seen) c.self.view_is in
    let used = c.offer_and_look-seat.ensures.offered.left in
    omega (arith, same, before, used)

pub returns-clause-attempted : goal.returns-clause-attempted
returns-clause-attempted g c =
    let within = subst (λ (x : WorkerLoopState). IsReplicaIn (base_of c.args.desk.now) (history c.args.seat) x.replica) (sym c.self.view_is) c.requires.may.caught_up.within.replica in
    let offered = c.offer.ensures.offer _ _ within in
    let own = ap (λ (x : WorkerLoopState). x.replica.worker) c.self.view_is ∙ c.requires.may.caught_up.within.own.worker in
    let G = history c.offer_and_look-seat.result.0 in
    let F = history c.catch_up-seat.result in
    attempted-later (base_of c.args.desk.now).options (number_of c.args.seat) c.args.attempt_no _ c.offer_and_look-seat.result.1 (history c.args.seat) G F
    (attempted _ _ _ _ (g.C.Entry.Offer.Offers.offered c.last.result.now) _ _ _
    (ap (λ (x : Offered). x.worker) c.last.ensures ∙ (offered.worker ∙ own))
    (ap (λ (x : Offered). x.number) c.last.ensures ∙ offered.number)
    (ap (λ (x : Offered). x.moves) c.last.ensures ∙ offered.move) c.offer_and_look-seat.ensures.offered.ends)
    (subst (λ w. GoesOn (λ e. e.worker) w G F) c.offer_and_look-seat.ensures.offered.number c.catch_up-seat.ensures.history)
