use Rattle.std.proofs.Common.{◌≡◌, ◌∙◌, sym, subst}
use Rattle.std.specs.Prelude.{slice_index}
use Rattle.ih_journal.specs.Legal.{verdict_on}
use Rattle.ih_cellbook.specs.BookState.{BookState}
use Rattle.ih_cellbook.specs.Offers.{IsRightOffer}
use Rattle.ih_cellbook.proofs.BookKeeping.{number-below, price-in, reads-in}
use Rattle.ih_cellbook.proofs.Committing.{verdict-same}
use Rattle.ih_cellbook.proofs.books.Book.judge.Goals as goal

pub judge_by_counters-requires-clause-number : goal.judge_by_counters-requires-clause-number
judge_by_counters-requires-clause-number g c =
    let o = g.E.Offer.Offers.offered c.args.offer.now in
    let right = subst (λ (v : BookState). IsRightOffer v.base v.entries o) (sym c.self.view_is) c.requires in
    rw c.deref-parts.ensures (number-below _ _ _ _ _ _ c.self.inside.parts.value.inst.now.valid c.self.invariant.0 o right)

pub judge_by_counters-requires-clause-price : goal.judge_by_counters-requires-clause-price
judge_by_counters-requires-clause-price g c =
    let o = g.E.Offer.Offers.offered c.args.offer.now in
    let right = subst (λ (v : BookState). IsRightOffer v.base v.entries o) (sym c.self.view_is) c.requires in
    price-in _ _ _ _ _ _ c.self.inside.parts.value.inst.now.valid c.self.invariant.0 o right

pub judge_by_counters-requires-clause-reads : goal.judge_by_counters-requires-clause-reads
judge_by_counters-requires-clause-reads g c =
    let o = g.E.Offer.Offers.offered c.args.offer.now in
    let right = subst (λ (v : BookState). IsRightOffer v.base v.entries o) (sym c.self.view_is) c.requires in
    rw (c.as_slice.ensures.value, c.deref-parts.ensures) (reads-in _ _ _ _ _ _ c.self.inside.parts.value.inst.now.valid c.self.invariant.0 o right)

pub returns : goal.returns
returns g c =
    let o = g.E.Offer.Offers.offered c.args.offer.now in
    let right = subst (λ (v : BookState). IsRightOffer v.base v.entries o) (sym c.self.view_is) c.requires in
    subst (λ (v : BookState). c.judge_by_counters.result ≡ verdict_on v.base v.entries o.number o.seen o.moves o.price) c.self.view_is
    (rw (c.as_slice.ensures.value, c.deref-parts.ensures) at c.judge_by_counters.ensures ∙ verdict-same _ _ (slice_index c.self.inside.parts.value.counters.items) o c.self.invariant.0.versions.each right)
