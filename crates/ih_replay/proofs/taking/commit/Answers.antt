use Rattle.std.proofs.Common.{◌∙◌, ap, refl, sym, subst, [], ◌∷◌, ◌++◌}
use Rattle.ih_tables.specs.declared.journal_refusals.Reason.TheVariants.{Price, Verdict}
use Rattle.ih_cellbook.specs.Replicas.{IsReplicaIn}
use Rattle.ih_cellbook.proofs.Within.{stands-behind, stands-same}
use Rattle.ih_cellbook.specs.Singles.{offered_of}
use Rattle.ih_replay.proofs.Offering.{entry-is, follow-is, price-is, right-is}
use Rattle.ih_replay.proofs.taking.commit.Goals as goal

pub judge-requires : goal.judge-requires
judge-requires c =
    let v = c.args.book.now in
    right-is v.base v.entries c.args.replica.now c.requires.replica c.args.entry.now
    (offered_of c.offer-offer.result.now) c.offer-offer.ensures.offer c.requires.seen c.requires.own c.requires.fits c.offer-offer.ensures.right

pub commit-requires : goal.commit-requires
commit-requires c =
    let v = c.args.book.now in
    right-is v.base v.entries c.args.replica.now c.requires.replica c.args.entry.now
    (offered_of c.offer-offer.result.now) c.offer-offer.ensures.offer c.requires.seen c.requires.own c.requires.fits c.offer-offer.ensures.right

pub returns-then-not-is_same_price-clause-replica : goal.returns-then-not-is_same_price-clause-replica
returns-then-not-is_same_price-clause-replica c =
    let v = c.args.book.now in
    stands-same v.base v.entries c.args.replica.now c.requires.replica c.offer-offer.follows.lender-at-none c.offer-offer.follows.holds-at-none.2

pub returns-then-not-is_same_verdict-clause-replica : goal.returns-then-not-is_same_verdict-clause-replica
returns-then-not-is_same_verdict-clause-replica c =
    let v = c.args.book.now in
    stands-same v.base v.entries c.args.replica.now c.requires.replica c.offer-offer.follows.lender-at-none c.offer-offer.follows.holds-at-none.2

pub returns-else-not-is_same_verdict-clause-replica : goal.returns-else-not-is_same_verdict-clause-replica
returns-else-not-is_same_verdict-clause-replica c =
    let v = c.args.book.now in
    let s = c.offer-offer.follows.lender-at-none in
    let same = stands-same v.base v.entries c.args.replica.now c.requires.replica s c.offer-offer.follows.holds-at-none.2 in
    subst (λ b. IsReplicaIn b c.commit.new.self.entries s) (sym c.commit.ensures.base)
    (subst (λ es. IsReplicaIn v.base es s) (sym c.commit.ensures.entries) (stands-behind v.base v.entries s same _))

pub returns-then-not-is_same_price-clause-err : goal.returns-then-not-is_same_price-clause-err
returns-then-not-is_same_price-clause-err c =
    let v = c.args.book.now in
    let price = price-is v.base v.entries c.args.replica.now c.requires.replica c.args.entry.now
    (offered_of c.offer-offer.result.now) c.offer-offer.ensures.offer c.requires.seen c.requires.own c.requires.fits in
    record { earlier = []; later = Verdict ∷ []; listed = refl; passed = tt; fails = λ is. c.if-not-is_same_price.ensures.no refl (price ∙ sym is) }

pub returns-then-not-is_same_verdict-clause-err : goal.returns-then-not-is_same_verdict-clause-err
returns-then-not-is_same_verdict-clause-err c =
    let both = follow-is _ _ _ c.requires.replica c.args.entry.now (offered_of c.offer-offer.result.now) c.offer-offer.ensures.offer c.requires.seen c.requires.own c.requires.fits
    c.judge.result (c.if-not-is_same_price.ensures.yes refl) c.judge.ensures in
    record { earlier = Price ∷ []; later = []; listed = refl; passed = (both.0, tt); fails = λ is. c.if-not-is_same_verdict.ensures.no refl (both.1 ∙ sym is) }

pub returns-else-not-is_same_verdict-clause-ok : goal.returns-else-not-is_same_verdict-clause-ok
returns-else-not-is_same_verdict-clause-ok c =
    let both = follow-is _ _ _ c.requires.replica c.args.entry.now (offered_of c.offer-offer.result.now) c.offer-offer.ensures.offer c.requires.seen c.requires.own c.requires.fits
    c.judge.result (c.if-not-is_same_price.ensures.yes refl) c.judge.ensures in
    (both.0, (sym (c.if-not-is_same_verdict.ensures.yes refl) ∙ both.1, tt))

pub returns-else-not-is_same_verdict-clause-added : goal.returns-else-not-is_same_verdict-clause-added
returns-else-not-is_same_verdict-clause-added c =
    let v = c.args.book.now in
    c.commit.ensures.entries
    ∙ ap (λ e. v.entries ++ e ∷ [])
    (entry-is v.base v.entries c.args.replica.now c.requires.replica c.args.entry.now
    (offered_of c.offer-offer.result.now) c.offer-offer.ensures.offer c.requires.seen c.requires.own c.requires.fits
    c.commit.result (c.commit.ensures.verdict ∙ sym c.judge.ensures ∙ c.if-not-is_same_verdict.ensures.yes refl) (c.if-not-is_same_price.ensures.yes refl))
