use Rattle.std.proofs.Common.{◌≡◌, ◌<◌, ◌∙◌, ◌++◌, ap, arith, sym, subst, List, drop, Some}
use Rattle.ih_journal.specs.declared.settings.Options.{Options}
use Rattle.ih_journal.specs.Tried.{Tried}
use Rattle.ih_turn.specs.Seats.{history}
use Rattle.ih_cellbook.specs.BufferState.{BufferState}
use Rattle.ih_cellbook.specs.Laws.{HasNoneBy}
use Rattle.ih_cellbook.specs.Offers.{next_number}
use Rattle.ih_cellbook.specs.Replicas.{IsReplicaIn}
use Rattle.ih_cellbook.proofs.Within.{offered-right, stands-behind, stands-same}
use Rattle.ih_desk.specs.Desks.{base_of}
use Rattle.ih_search_tests.proofs.NewReplicas.{whole-is}
use Rattle.ih_search_tests.proofs.tests.desk.offer.Goals as goal

pub look-seat-requires : goal.look-seat-requires
look-seat-requires g c =
    let left = c.requires.left in
    record { may = record { own = c.requires.seat.own; left = omega (arith, left); within = omega arith }; replica = c.requires.seat.replica }

pub offer-seat-requires : goal.offer-seat-requires
offer-seat-requires g c =
    let b = base_of c.args.desk.now in
    let H = history c.look-seat.result in
    let r = c.args.replica.now in
    let o = c.offer-offer.result.now in
    let looked = c.look-seat.ensures.looked in
    let shown = c.look-seat.ensures.copied in
    let stands = c.look-seat.ensures.replica in
    let may = c.may_offer.ensures c.if-may_offer.true in
    let part = ap (λ (x : BufferState). x.entries) shown in
    let whole = whole-is H c.look-seat.new.buffer.entries part (may.0 ∙ ap (λ (x : BufferState). x.front) shown) in
    let used = looked.left in
    let had = c.requires.left in
    record {
      may = record {
        own = looked.own;
        left = omega (arith, used, had);
        worker = may.1 ∙ c.number-worker.ensures;
        right = offered-right b H r stands c.args.entry.now.number _ _ c.offer-offer.ensures.offer c.offer-offer.ensures.right (
          subst (λ (s : Options). o.worker < s.workers) c.requires.options may.2,
          subst (λ (s : Options). next_number s H o.worker ≡ Some o.number) c.requires.options
              (subst (λ (G : List Tried). next_number c.args.options.now G o.worker ≡ Some o.number) whole may.3),
          subst (λ (G : List Tried). HasNoneBy o.worker (drop o.seen G)) whole may.4,
        );
      };
    }

pub returns-then-may_offer : goal.returns-then-may_offer
returns-then-may_offer g c =
    let b = base_of c.args.desk.now in
    let H = history c.look-seat.result in
    let s = c.offer-offer.follows.lender-at-none in
    let same = stands-same b H c.args.replica.now c.look-seat.ensures.replica s c.offer-offer.follows.holds-at-none.2 in
    let offered = c.offer-seat.ensures.offered in
    let ends = offered.ends in
    record {
      followed = record {
        own = offered.own;
        replica = subst (λ G. IsReplicaIn b G s) (sym ends.history) (stands-behind b (H ++ ends.others) s (stands-behind b H s same ends.others) _);
      };
      number = offered.number ∙ c.look-seat.ensures.looked.number;
    }

pub returns-else-may_offer : goal.returns-else-may_offer
returns-else-may_offer g c =
    let looked = c.look-seat.ensures.looked in
    record {
      followed = record {
        own = looked.own;
        replica = stands-same (base_of c.args.desk.now) (history c.look-seat.result) c.args.replica.now c.look-seat.ensures.replica
            c.offer-offer.follows.lender-at-none c.offer-offer.follows.holds-at-none.2;
      };
      number = looked.number;
    }
