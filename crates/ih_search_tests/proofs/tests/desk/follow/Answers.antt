use Rattle.std.proofs.Common.{◌∙◌, ap, arith, sym, subst, drop, take}
use Rattle.ih_turn.specs.Seats.{history}
use Rattle.ih_cellbook.specs.BufferState.{BufferState}
use Rattle.ih_cellbook.specs.Replicas.{MayFollow, StandsAfter}
use Rattle.ih_cellbook.proofs.Within.{next-follow, seen-within, stands-further}
use Rattle.ih_desk.specs.Desks.{base_of}
use Rattle.ih_search_tests.proofs.tests.desk.follow.Goals as goal

pub look-seat-requires : goal.look-seat-requires
look-seat-requires g c =
    let left = c.requires.left in
    let seen = seen-within (base_of c.args.desk.now) (history c.args.seat) c.args.replica.now c.requires.seat.replica in
    let from = c.seen-from.ensures in
    record {
      may = record { own = c.requires.seat.own; left = omega (arith, left); within = omega (arith, seen, from) };
      replica = c.requires.seat.replica;
    }

pub advance-requires : goal.advance-requires
advance-requires g c =
    let H = history c.look-seat.result in
    let r = c.args.replica.now in
    let shown = ap (λ (x : BufferState). x.entries) c.look-seat.ensures.copied ∙ ap (λ k. take 256 (drop k H)) c.seen-from.ensures in
    record {
      follow = subst (MayFollow r) (sym (c.entries.ensures ∙ shown))
          (next-follow (base_of c.args.desk.now) H r c.look-seat.ensures.replica 256 c.look-seat.ensures.looked.own.legal);
    }

pub returns : goal.returns
returns g c =
    let looked = c.look-seat.ensures.looked in
    let H = history c.look-seat.result in
    let r = c.args.replica.now in
    let s = c.advance.new.self in
    let shown = ap (λ (x : BufferState). x.entries) c.look-seat.ensures.copied ∙ ap (λ k. take 256 (drop k H)) c.seen-from.ensures in
    let later = subst (λ es. StandsAfter r es s) (c.entries.ensures ∙ shown) c.advance.ensures.replica in
    record {
      followed = record {
        own = looked.own;
        replica = stands-further (base_of c.args.desk.now) H r c.look-seat.ensures.replica 256 s looked.own.legal later;
      };
      number = looked.number;
    }
