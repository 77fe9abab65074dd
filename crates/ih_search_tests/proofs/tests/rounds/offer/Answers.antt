use Rattle.std.proofs.Common.{◌≡◌, ◌<◌, ap, sym, subst, List, drop, length, arith, Some}
use Rattle.std.proofs.lemmas.List.{length-map}
use Rattle.ih_journal.specs.declared.settings.Options.{Options}
use Rattle.ih_journal.specs.Tried.{Tried, tried}
use Rattle.ih_cellbook.specs.Laws.{HasNoneBy}
use Rattle.ih_cellbook.specs.Offers.{next_number}
use Rattle.ih_cellbook.specs.Replicas.{IsReplicaIn}
use Rattle.ih_cellbook.proofs.Within.{offered-right, offered-seen, stands-behind, stands-same}
use Rattle.ih_search_tests.proofs.tests.rounds.offer.Goals as goal

pub may_come-requires : goal.may_come-requires
may_come-requires c =
    let v = c.args.book.now in
    let few = offered-seen v.base v.entries c.args.replica.now c.requires.replica c.args.attempt_no _ _ c.offer-offer.ensures.offer in
    let long = length-map c.entries.result.now tried in
    let same = ap length c.entries.ensures.entries in
    omega (arith, few, long, same)

pub commit-requires : goal.commit-requires
commit-requires c =
    let v = c.args.book.now in
    let o = c.offer-offer.result.now in
    let may = c.may_come.ensures c.if-may_come.true in
    offered-right v.base v.entries c.args.replica.now c.requires.replica c.args.attempt_no _ _ c.offer-offer.ensures.offer c.offer-offer.ensures.right (
      subst (λ (s : Options). o.worker < s.workers) c.requires.options may.0,
      subst (λ (s : Options). next_number s v.entries o.worker ≡ Some o.number) c.requires.options
          (subst (λ (H : List Tried). next_number c.args.options.now H o.worker ≡ Some o.number) c.entries.ensures.entries may.1),
      subst (λ (H : List Tried). HasNoneBy o.worker (drop o.seen H)) c.entries.ensures.entries may.2,
    )

pub returns-then-may_come-clause-replica : goal.returns-then-may_come-clause-replica
returns-then-may_come-clause-replica c =
    let v = c.args.book.now in
    let s = c.offer-offer.follows.lender-at-none in
    let same = stands-same v.base v.entries c.args.replica.now c.requires.replica s c.offer-offer.follows.holds-at-none.2 in
    subst (λ es. IsReplicaIn v.base es s) (sym c.commit.ensures.entries) (stands-behind v.base v.entries s same _)

pub returns-else-may_come-clause-replica : goal.returns-else-may_come-clause-replica
returns-else-may_come-clause-replica c =
    let v = c.args.book.now in
    stands-same v.base v.entries c.args.replica.now c.requires.replica c.offer-offer.follows.lender-at-none c.offer-offer.follows.holds-at-none.2
