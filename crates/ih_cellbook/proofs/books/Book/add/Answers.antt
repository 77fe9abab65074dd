use Rattle.std.proofs.Common.{map, ◌≡◌, ◌+◌, ◌∙◌, ◌++◌, ◌∷◌, [], arith, ap, refl, sym, subst, length, Some}
use Rattle.std.specs.Prelude.{if◌then◌else◌, slice_index, slice_set}
use Rattle.std.proofs.lemmas.List.{length-map}
use Rattle.ih_tables.specs.Bills.{add_bills, feasible, cost}
use Rattle.ih_plan.specs.BillOf.{change_of_bill}
use Rattle.ih_journal.specs.declared.entries.Verdict.TheVariants.{Accepted}
use Rattle.ih_journal.specs.Attempts.{try_after}
use Rattle.ih_journal.specs.Best.{best_with}
use Rattle.ih_journal.specs.History.{is_accepted, plan_after}
use Rattle.ih_cellbook.specs.Counters.{times_read}
use Rattle.ih_cellbook.specs.Keeping.{base_with}
use Rattle.ih_cellbook.specs.ReadsState.{ReadsState}
use Rattle.ih_cellbook.specs.Offers.{IsJudged, entry_of, entry_with}
use Rattle.ih_cellbook.specs.BookState.{BookState}
use Rattle.ih_cellbook.proofs.BookKeeping.{IsAdding, accepted-in, accepted-rise, again-within, best-stays, bill_next, bill-next-in, exact-next, grown, has-room, history-short, kept-more, sum-small}
use Rattle.ih_cellbook.proofs.books.Book.add.Given.{Over}
use Rattle.ih_cellbook.proofs.books.Book.add.Goals.{After-deref_mut-parts}
use Rattle.ih_cellbook.proofs.books.Book.add.Goals as goal

-- the parts before the entry is added, and the offer with its verdict
adding : (g : Over) (c : After-deref_mut-parts g) → let p = c.deref_mut-parts.result.now in
    IsAdding (base_with p.inst.now.draft p.start.now p.options p.freeze) (map g.E.Logged.tried p.entries.items) p.counters.items p.again.items p.bill p.best
    (g.E.Offer.Offers.offered c.args.offer.now) c.args.verdict
adding g c = record {
  valid = c.deref_mut-parts.result.now.inst.now.valid;
  kept = rw (← c.deref_mut-parts.ensures.value) at c.self.invariant.0;
  judged = rw (← c.deref_mut-parts.ensures.value) at
      (subst (λ (k : BookState). IsJudged k.base k.entries (g.E.Offer.Offers.offered c.args.offer.now) c.args.verdict) (sym c.self.view_is) c.requires);
}

pub raise_where-requires-clause-reads : goal.raise_where-requires-clause-reads
raise_where-requires-clause-reads g c =
    let at = adding g (goal.at.raise_where-requires-clause-reads g c).After-deref_mut-parts in
    λ on. rw c.reads.ensures (accepted-in _ _ _ _ _ _ _ _ at on)

pub raise_where-requires-clause-small : goal.raise_where-requires-clause-small
raise_where-requires-clause-small g c =
    let at = adding g (goal.at.raise_where-requires-clause-small g c).After-deref_mut-parts in
    λ on. rw c.reads.ensures (accepted-rise _ _ _ _ _ _ _ _ at on)

pub add_price-requires : goal.add_price-requires
add_price-requires g c =
    let at = adding g (goal.at.add_price-requires g c).After-deref_mut-parts in
    rw c.price.ensures (sum-small _ _ _ _ _ _ at.valid at.kept _ at.judged.right)

pub entry_from-requires : goal.entry_from-requires
entry_from-requires g c =
    let at = adding g (goal.at.entry_from-requires g c).After-deref_mut-parts in
    let few = again-within _ _ _ _ _ _ at.valid at.kept _ at.judged.right.worker in
    let again = c.again_of-again.ensures in
    let most = rw (← c.deref_mut-parts.ensures.value) at c.self.invariant.2 in
    omega (arith, few, again, most)

pub push_reserved-requires : goal.push_reserved-requires
push_reserved-requires g c =
    let at = adding g (goal.at.push_reserved-requires g c).After-deref_mut-parts in
    let room = has-room _ _ _ _ _ _ at.valid at.kept _ at.judged.right in
    let most = rw (← c.deref_mut-parts.ensures.value) at c.self.invariant.1 in
    let len = c.deref_mut-parts.result.now.entries.ok.0 in
    let same = length-map c.deref_mut-parts.result.now.entries.items g.E.Logged.tried in
    omega (arith, room, most, len, same)

pub overflow_cast-len : goal.overflow_cast-len
overflow_cast-len g c =
    let at = adding g (goal.at.overflow_cast-len g c).After-deref_mut-parts in
    let short = history-short _ _ _ _ _ _ at.valid at.kept in
    let old = c.deref_mut-parts.result.now.entries.ok.0 in
    let more = c.push_reserved.ensures.len in
    let len = c.len.ensures in
    let same = length-map c.deref_mut-parts.result.now.entries.items g.E.Logged.tried in
    omega (arith, short, old, more, len, same)

pub best_after-parts-requires-clause-within : goal.best_after-parts-requires-clause-within
best_after-parts-requires-clause-within g c =
    let o = g.E.Offer.Offers.offered c.args.offer.now in
    let at = adding g (goal.at.best_after-parts-requires-clause-within g c).After-deref_mut-parts in
    let bill : c.add_price.new.bill ≡ bill_next c.args.verdict c.deref_mut-parts.result.now.bill o.price =
    c.add_price.ensures ∙ ap (bill_next c.args.verdict c.deref_mut-parts.result.now.bill) c.price.ensures in
    rw bill (bill-next-in _ _ _ _ _ _ _ _ at)

pub best_after-parts-requires-clause-looked_at : goal.best_after-parts-requires-clause-looked_at
best_after-parts-requires-clause-looked_at g c off =
    let at = adding g (goal.at.best_after-parts-requires-clause-looked_at g c).After-deref_mut-parts in
    let same : c.add_price.new.bill ≡ c.deref_mut-parts.result.now.bill =
    c.add_price.ensures ∙ ap (λ t. if t then add_bills c.deref_mut-parts.result.now.bill c.price.result else c.deref_mut-parts.result.now.bill) off in
    best-stays _ _ c.add_price.new.bill c.deref_mut-parts.result.now.best c.len.result (same ∙ at.kept.bill) at.kept.best

pub invariant_of-self : goal.invariant_of-self
invariant_of-self g c =
    let o = g.E.Offer.Offers.offered c.args.offer.now in
    let at = adding g (goal.at.invariant_of-self g c).After-deref_mut-parts in
    let p = c.deref_mut-parts.result.now in
    let grows = grown _ _ _ _ _ _ _ _ at g.E.Logged.tried _ _ _ _ refl c.push_reserved.ensures.items c.entry_from.ensures c.again_of-again.ensures in
    let bill : c.add_price.new.bill ≡ bill_next c.args.verdict p.bill o.price = c.add_price.ensures ∙ ap (bill_next c.args.verdict p.bill) c.price.ensures in
    let place : c.len.result ≡ length (map g.E.Logged.tried p.entries.items) + 1 =
    let old = p.entries.ok.0 in
    let more = c.push_reserved.ensures.len in
    let len = c.len.ensures in
    let same = length-map p.entries.items g.E.Logged.tried in
    omega (arith, old, more, len, same) in
    let room = c.push_reserved.ensures.capacity in
    let most = rw (← c.deref_mut-parts.ensures.value) at c.self.invariant.1 in (
      rw grows (kept-more _ _ _ _ _ _ _ _ at c.raise_where.new.counters.items _ c.add_price.new.bill c.best_after-parts.result
          (record {
            len = c.raise_where.ensures.len;
            counters = λ n. c.raise_where.ensures.each n
                ∙ ap (λ (r : ReadsState). slice_index p.counters.items n + (if is_accepted c.args.verdict then times_read n r.pairs else 0)) c.reads.ensures;
            again = ap (λ w. slice_set p.again.items w c.again_after.result) c.worker.ensures
                ∙ ap (slice_set p.again.items o.worker)
                (c.again_after.ensures o ∙ ap (λ n. (try_after p.options (Some (entry_with o n c.args.verdict))).again) c.again_of-again.ensures);
            chosen = c.best_after-parts.ensures
                ∙ ap (λ k. best_with p.best k (feasible c.add_price.new.bill) (cost p.inst.now.draft.weights c.add_price.new.bill)) place;
          })
          bill),
      omega (arith, room, most),
      rw (← c.deref_mut-parts.ensures.value) at c.self.invariant.2,
    )

pub returns-clause-entries : goal.returns-clause-entries
returns-clause-entries g c =
    let o = g.E.Offer.Offers.offered c.args.offer.now in
    let at = adding g (goal.at.returns-clause-entries g c).After-deref_mut-parts in
    subst (λ (k : BookState). map g.E.Logged.tried c.push_reserved.new.self.items ≡ k.entries ++ entry_of k.base k.entries o c.args.verdict ∷ [])
    (rw (← c.deref_mut-parts.ensures.value) at c.self.view_is)
    (grown _ _ _ _ _ _ _ _ at g.E.Logged.tried _ _ _ _ refl c.push_reserved.ensures.items c.entry_from.ensures c.again_of-again.ensures)

pub returns-clause-exact : goal.returns-clause-exact
returns-clause-exact g c =
    let o = g.E.Offer.Offers.offered c.args.offer.now in
    let at = adding g (goal.at.returns-clause-exact g c).After-deref_mut-parts in
    let grows = grown _ _ _ _ _ _ _ _ at g.E.Logged.tried _ _ _ _ refl c.push_reserved.ensures.items c.entry_from.ensures c.again_of-again.ensures in
    subst (λ (k : BookState). c.args.verdict ≡ Accepted
    → o.price ≡ change_of_bill k.base.instance (plan_after k.base k.entries) (plan_after k.base (map g.E.Logged.tried c.push_reserved.new.self.items)))
    (rw (← c.deref_mut-parts.ensures.value) at c.self.view_is)
    (rw grows (exact-next _ _ _ _ _ _ _ _ at))
