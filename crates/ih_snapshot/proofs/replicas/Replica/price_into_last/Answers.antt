use Rattle.std.proofs.Common.{◌≡◌, ◌∙◌, ◌^◌, [], refl, ap, sym, subst, arith, inl, inr, ℕ, Bool, true, false, List}
use Rattle.std.specs.List.{list_any}
use Rattle.std.proofs.lemmas.Bool.{cases_lt}
use Rattle.ih_tables.specs.declared.bills.Bill.{Bill}
use Rattle.ih_tables.specs.Bills.{IsWithin}
use Rattle.ih_tables.specs.declared.drafts.Draft.{Draft}
use Rattle.ih_plan.specs.declared.moves.Move.{Move}
use Rattle.ih_plan.specs.Timetable.{Timetable}
use Rattle.ih_plan.specs.Series.{expand_all, price_of_all}
use Rattle.ih_plan.specs.Frozen.{is_frozen_write}
use Rattle.ih_journal.specs.Frozen.{is_frozen}
use Rattle.ih_cellbook.specs.Counters.{is_compared}
use Rattle.ih_cellbook.specs.Keeping.{base_with}
use Rattle.ih_cellbook.specs.Offered.{Offered}
use Rattle.ih_costs.specs.LedgersState.{LedgersState}
use Rattle.ih_snapshot.specs.Noting.{asks_reads, offer_with}
use Rattle.ih_cellbook.specs.ReplicaState.{ReplicaState}
use Rattle.ih_cellbook.proofs.Unfrozen.{none-frozen}
use Rattle.ih_snapshot.proofs.Pricing.{filled, frozen-here, replica_with}
use Rattle.ih_snapshot.proofs.replicas.Replica.price_into_last.Goals as goal

pub is_compared-requires-clause-lawful : goal.is_compared-requires-clause-lawful
is_compared-requires-clause-lawful g c = c.self.invariant.0.base.lawful

pub touches_frozen-frozen-requires-clause-alone : goal.touches_frozen-frozen-requires-clause-alone
touches_frozen-frozen-requires-clause-alone g c day =
    let most = c.self.invariant.1 in
    let short = g.met.E.Attempt.Attempted.alone c.args.attempt.now (omega (arith, day, most)) in
    rw c.as_slice-moves.ensures short

-- whether the attempt is frozen, by its moves
tested : (start : Timetable) (freeze : ℕ) (I : Draft) (P : Timetable) (told own : List Move) (frozen : Bool)
    → frozen ≡ list_any (is_frozen_write start freeze) (expand_all I P told) → told ≡ own → frozen ≡ list_any (is_frozen_write start freeze) (expand_all I P own)
tested start freeze I P told own frozen is same = is ∙ ap (λ ms. list_any (is_frozen_write start freeze) (expand_all I P ms)) same

-- a frozen attempt has a freeze day
pub become_offer-requires : goal.become_offer-requires
become_offer-requires g c h = elim (cases_lt 0 c.self.inside.freeze) [
  | inl some ↦ (let most = c.self.invariant.1 in omega (arith, some, most))
  | inr none ↦
      let zero : c.self.inside.freeze ≡ 0 = omega (arith, none) in
      let free : c.touches_frozen-frozen.result
      ≡ false = tested c.self.inside.start c.self.inside.freeze c.self.inside.inst.now.draft c.plan.result.now c.as_slice-moves.result.now (g.E.Attempt.Attempted.moves c.args.attempt.now) c.touches_frozen-frozen.result
      c.touches_frozen-frozen.ensures c.as_slice-moves.ensures
      ∙ rw zero (none-frozen c.self.inside.start
      (expand_all c.self.inside.inst.now.draft c.plan.result.now (g.E.Attempt.Attempted.moves c.args.attempt.now))) in
      absurd (let no : true ≡ false = sym h ∙ free in cc)
]

pub returns-clause-made : goal.returns-clause-made
returns-clause-made g c =
    let v = c.self.inside.ledgers in
    let I = c.self.inside.inst.now.draft in
    let m = g.E.Attempt.Attempted.moves c.args.attempt.now in
    let r = replica_with (base_with I c.self.inside.start c.self.inside.options c.self.inside.freeze) c.self.inside.worker c.self.inside.seen
    v.plan c.self.inside.versions.items (g.E.Offer.Offers.offered c.self.inside.last) in
    let plan : c.price_all_alone-price.new.self.plan ≡ v.plan = ap (λ (s : LedgersState). s.plan) c.price_all_alone-price.ensures.same in
    let price : c.price_all_alone-price.result ≡ price_of_all I v.plan m =
    c.price_all_alone-price.ensures.price ∙ (ap (price_of_all v.instance v.plan) c.as_slice-moves.ensures ∙ ap (λ J. price_of_all J v.plan m) c.self.invariant.0.instance) in
    let frozen = frozen-here r.base c.plan.result.now v.plan m c.touches_frozen-frozen.result (tested c.self.inside.start c.self.inside.freeze c.self.inside.inst.now.draft c.plan.result.now c.as_slice-moves.result.now (g.E.Attempt.Attempted.moves c.args.attempt.now) c.touches_frozen-frozen.result
    c.touches_frozen-frozen.ensures c.as_slice-moves.ensures) (c.plan.ensures.value ∙ plan) in
    let made = filled r c.args.attempt_no m c.price_all_alone-price.new.self.plan c.price_all_alone-price.result (record r.last.reads { pairs = [] }) c.touches_frozen-frozen.result plan price refl frozen in
    let mine : (let s : ReplicaState = record r { plan = c.price_all_alone-price.new.self.plan; last = g.E.Offer.Offers.offered c.become_offer.new.self } in s)
    ≡ record r { last = offer_with r c.args.attempt_no m [] } =
    ap (λ (o : Offered). let s : ReplicaState = record r { plan = c.price_all_alone-price.new.self.plan; last = o } in s) c.become_offer.ensures ∙ made in
    subst (λ (s : ReplicaState). (let t : ReplicaState = record r { plan = c.price_all_alone-price.new.self.plan; last = g.E.Offer.Offers.offered c.become_offer.new.self } in t)
    ≡ record s { last = offer_with s c.args.attempt_no m [] }) c.self.view_is mine

pub returns-clause-compared : goal.returns-clause-compared
returns-clause-compared g c =
    let v = c.self.inside.ledgers in
    let I = c.self.inside.inst.now.draft in
    let m = g.E.Attempt.Attempted.moves c.args.attempt.now in
    let o = c.self.inside.options in
    let n = c.args.attempt_no in
    let base = base_with I c.self.inside.start o c.self.inside.freeze in
    let plan : c.price_all_alone-price.new.self.plan ≡ v.plan = ap (λ (s : LedgersState). s.plan) c.price_all_alone-price.ensures.same in
    let price : c.price_all_alone-price.result ≡ price_of_all I v.plan m =
    c.price_all_alone-price.ensures.price ∙ (ap (price_of_all v.instance v.plan) c.as_slice-moves.ensures ∙ ap (λ J. price_of_all J v.plan m) c.self.invariant.0.instance) in
    let frozen = frozen-here base c.plan.result.now v.plan m c.touches_frozen-frozen.result (tested c.self.inside.start c.self.inside.freeze c.self.inside.inst.now.draft c.plan.result.now c.as_slice-moves.result.now (g.E.Attempt.Attempted.moves c.args.attempt.now) c.touches_frozen-frozen.result
    c.touches_frozen-frozen.ensures c.as_slice-moves.ensures) (c.plan.ensures.value ∙ plan) in
    subst (λ (s : ReplicaState). c.is_compared.result ≡ asks_reads s n m) c.self.view_is
    (c.is_compared.ensures ∙ ap (λ f. is_compared I o f n c.price_all_alone-price.result) frozen ∙ ap (λ (p : Bill). is_compared I o (is_frozen base v.plan m) n p) price)

pub returns-clause-within : goal.returns-clause-within
returns-clause-within g c = subst (IsWithin (10 ^ 11)) (sym (ap (λ (o : Offered). o.price) c.become_offer.ensures)) c.price_all_alone-price.ensures.within
