-- An offer read off a replica is that after the history that the replica stands for.
use Rattle.std.proofs.Common.{◌≡◌, ℕ, ◌^◌, ◌<◌, ◌⊎◌, arith, refl, sym, ap, ◌∙◌, subst, Bool, true, false, List, [], take, inl, inr, Some}
use Rattle.std.specs.Prelude.{slice_index, if◌then◌else◌}
use Rattle.std.specs.List.{list_any}
use Rattle.std.proofs.lemmas.List.{take_all}
use Rattle.std.proofs.lemmas.Option.{slice_get_within}
use Rattle.ih_tables.specs.declared.bills.Bill.{Bill}
use Rattle.ih_tables.specs.Bills.{IsWithin}
use Rattle.ih_plan.specs.declared.moves.Move.{Move}
use Rattle.ih_plan.specs.Timetable.{Timetable}
use Rattle.ih_plan.specs.Sums.{tagged}
use Rattle.ih_plan.specs.Cells.{cell_at}
use Rattle.ih_plan.proofs.ListedBelow.{tagged-same}
use Rattle.ih_plan.specs.Series.{AreMoves, expand_all, footprint_of_all, price_of_all}
use Rattle.ih_journal.specs.Tried.{Tried}
use Rattle.ih_journal.specs.Base.{Base}
use Rattle.ih_plan.specs.Frozen.{is_frozen_write}
use Rattle.ih_journal.specs.Frozen.{is_frozen}
use Rattle.ih_journal.specs.History.{plan_after, version}
use Rattle.ih_cellbook.specs.Counters.{is_compared}
use Rattle.ih_cellbook.specs.ReadsState.{ReadsState}
use Rattle.ih_cellbook.specs.Offered.{Offered}
use Rattle.ih_cellbook.specs.Offers.{IsRightOffer, next_number, reads_after}
use Rattle.ih_cellbook.proofs.Committing.{footprint-below}
use Rattle.ih_snapshot.specs.Noting.{asks_reads, offer_of, offer_with, priced_of, reads_of}
use Rattle.ih_cellbook.specs.Replicas.{IsReplicaOf, IsOfferAfter, IsOfferOf, IsOfferWith, IsPricedAfter, IsPricedOf, IsRightFor, StandsAs}
use Rattle.ih_cellbook.specs.ReplicaState.{ReplicaState}

module _ (b : Base) (H : List Tried) (r : ReplicaState) (n : ℕ) (m : List Move) (stands : IsReplicaOf b H r) where
  reads-are : reads_of r m ≡ reads_after b H m
  reads-are =
      ap (λ c. tagged (slice_index r.versions) (footprint_of_all c.instance r.plan m)) stands.base
      ∙ ap (λ P. tagged (slice_index r.versions) (footprint_of_all b.instance P m)) stands.plan
      ∙ tagged-same (slice_index r.versions) (λ i. version b H (cell_at b.instance i)) (footprint_of_all b.instance (plan_after b H) m)
      (λ i there. stands.versions.each i (footprint-below b.instance (plan_after b H) m i there))

  price-is : price_of_all r.base.instance r.plan m ≡ price_of_all b.instance (plan_after b H) m
  price-is = ap (λ c. price_of_all c.instance r.plan m) stands.base ∙ ap (λ P. price_of_all b.instance P m) stands.plan

  frozen-is : is_frozen r.base r.plan m ≡ is_frozen b (plan_after b H) m
  frozen-is = ap (λ c. is_frozen c r.plan m) stands.base ∙ ap (λ P. is_frozen b P m) stands.plan

  asked-is : (frozen : Bool) (price : Bill)
      → (if is_compared r.base.instance r.base.options frozen n price then reads_of r m else [])
      ≡ (if is_compared b.instance b.options frozen n price then reads_after b H m else [])
  asked-is frozen price =
      ap (λ (c : Base). if is_compared c.instance c.options frozen n price then reads_of r m else []) stands.base
      ∙ ap (λ (reads : List (ℕ × ℕ)). if is_compared b.instance b.options frozen n price then reads else []) reads-are

  offered-reads : (offer_of r n m).reads.pairs
      ≡ (if is_compared b.instance b.options (is_frozen r.base r.plan m) n (price_of_all r.base.instance r.plan m) then reads_after b H m else [])
  offered-reads = asked-is (is_frozen r.base r.plan m) (price_of_all r.base.instance r.plan m)

  -- an offer with what its cells are after the history
  after-with : (reads cells : List (ℕ × ℕ)) → reads ≡ cells → IsOfferWith b H r.worker n m cells (offer_with r n m reads)
  after-with reads cells known = record {
    worker = refl;
    number = refl;
    move = refl;
    seen = stands.seen;
    price = price-is;
    reads = known;
    frozen = frozen-is;
  }

  offer-after : IsOfferAfter b H r.worker n m (offer_of r n m)
  offer-after = after-with (offer_of r n m).reads.pairs _ offered-reads

  priced-after : IsPricedAfter b H r.worker n m (priced_of r n m)
  priced-after = after-with (reads_of r m) (reads_after b H m) reads-are

  whole : take r.seen H ≡ H
  whole = let same = stands.seen in take_all r.seen H (omega (arith, same))

  -- it still stands for the history with another offer that was read off it
  stands-with : (reads : List (ℕ × ℕ)) → (reads ≡ []) ⊎ (reads ≡ reads_of r m) → IsReplicaOf b H (record r { last = offer_with r n m reads })
  stands-with reads known = record {
    base = stands.base;
    lawful = stands.lawful;
    legal = stands.legal;
    seen = stands.seen;
    plan = stands.plan;
    versions = stands.versions;
    last = record {
      seen = (let same = stands.seen in omega (arith, same));
      reads = elim known [
        | inl none ↦ inl none
        | inr all ↦ inr (all ∙ (reads-are ∙ ap (λ G. reads_after b G m) (sym whole)))
      ];
    };
  }

  stands-offered : IsReplicaOf b H (record r { last = offer_of r n m })
  stands-offered = stands-with (if asks_reads r n m then reads_of r m else []) (by_case (asks_reads r n m))
    where
      by_case : (t : Bool) → ((if t then reads_of r m else []) ≡ []) ⊎ ((if t then reads_of r m else []) ≡ reads_of r m)
      by_case true = inr refl
      by_case false = inl refl

  stands-priced : IsReplicaOf b H (record r { last = priced_of r n m })
  stands-priced = stands-with (reads_of r m) (inr refl)

  -- an offer is right where it has the cells if its verdict rests on them
  right-with : (reads : List (ℕ × ℕ)) → (asks_reads r n m ≡ true → reads ≡ reads_after b H m)
      → AreMoves r.base.instance m → r.worker < b.options.workers → next_number b.options H r.worker ≡ Some n → IsRightOffer b H (offer_with r n m reads)
  right-with reads known fits worker number =
      let same = stands.seen in
      let here : plan_after b (take r.seen H) ≡ plan_after b H = ap (plan_after b) whole in
      record {
        worker = worker;
        number = number;
        move = subst (λ c. AreMoves c.instance m) stands.base fits;
        seen = omega (arith, same);
        after_own = λ j e there own. let below = slice_get_within H j e there in omega (arith, below, same);
        price = price-is ∙ ap (λ P. price_of_all b.instance P m) (sym here);
        reads = λ asked.
            let own = ap (λ (c : Base). is_compared c.instance c.options (is_frozen r.base r.plan m) n (price_of_all r.base.instance r.plan m)) stands.base in
            known (own ∙ asked) ∙ ap (λ G. reads_after b G m) (sym whole);
        frozen = frozen-is ∙ ap (λ P. is_frozen b P m) (sym here);
      }

  offer-right : AreMoves r.base.instance m → r.worker < b.options.workers → next_number b.options H r.worker ≡ Some n → IsRightOffer b H (offer_of r n m)
  offer-right =
      right-with (if asks_reads r n m then reads_of r m else []) (λ asked. ap (λ (t : Bool). if t then reads_of r m else []) asked ∙ reads-are)

  priced-right : AreMoves r.base.instance m → r.worker < b.options.workers → next_number b.options H r.worker ≡ Some n → IsRightOffer b H (priced_of r n m)
  priced-right = right-with (reads_of r m) (λ asked. reads-are)

-- ---- what is told of it

-- The replica has changed by its last offer alone, which is told, and which P holds of.
abbrev pub Tells : (Offered → Type 0) → ReplicaState → ReplicaState → Offered → Type 0
Tells P r s o = ((s.base ≡ r.base) × (s.worker ≡ r.worker) × StandsAs r s) × P o × IsWithin (10 ^ 11) o.price

module _ (r s : ReplicaState) (n : ℕ) (m : List Move) (o : Offered) (told : o ≡ s.last) (fits : AreMoves r.base.instance m) (within : IsWithin (10 ^ 11) s.last.price) where
  told-as : (P : Offered → Type 0) (p : Offered) → s ≡ record r { last = p } → StandsAs r (record r { last = p }) → P p → Tells P r s o
  told-as P p made stands holds = (
    (
      ap (λ (t : ReplicaState). t.base) made,
      ap (λ (t : ReplicaState). t.worker) made,
      λ b H there. subst (IsReplicaOf b H) (sym made) (stands b H there),
    ),
    subst P (sym (told ∙ ap (λ (t : ReplicaState). t.last) made)) holds,
    subst (λ (q : Offered). IsWithin (10 ^ 11) q.price) (sym told) within,
  )

  pub offer-told : s ≡ record r { last = offer_of r n m } → Tells (λ q. IsOfferOf r n m q × IsRightFor r n q) r s o
  offer-told made =
      told-as (λ q. IsOfferOf r n m q × IsRightFor r n q) (offer_of r n m) made (λ b H there. stands-offered b H r n m there)
      ((λ b H there. offer-after b H r n m there), (λ b H there worker number. offer-right b H r n m there fits worker number))

  pub price-told : s ≡ record r { last = priced_of r n m } → Tells (λ q. IsPricedOf r n m q × IsRightFor r n q) r s o
  price-told made =
      told-as (λ q. IsPricedOf r n m q × IsRightFor r n q) (priced_of r n m) made (λ b H there. stands-priced b H r n m there)
      ((λ b H there. priced-after b H r n m there), (λ b H there worker number. priced-right b H r n m there fits worker number))

-- ---- how it is read off

-- a replica of these parts
abbrev pub replica_with : Base → ℕ → ℕ → Timetable → List ℕ → Offered → ReplicaState
replica_with b worker seen plan versions last = record { base = b; worker = worker; seen = seen; plan = plan; versions = versions; last = last }

-- a replica whose last offer has these parts
pub filled : (r : ReplicaState) (n : ℕ) (m : List Move) (P : Timetable) (price : Bill) (reads : ReadsState) (frozen : Bool) → P ≡ r.plan
    → price ≡ price_of_all r.base.instance r.plan m → reads ≡ record r.last.reads { pairs = [] } → frozen ≡ is_frozen r.base r.plan m
    → record r { plan = P; last = record { worker = r.worker; number = n; seen = r.seen; moves = m; price = price; reads = reads; frozen = frozen } } ≡ record r { last = offer_with r n m [] }
filled r n m P price reads frozen plan priced read free = rw (plan, priced, read, free) refl

pub frozen-here : (b : Base) (Q P : Timetable) (m : List Move) (frozen : Bool) → frozen ≡ list_any (is_frozen_write b.start b.freeze) (expand_all b.instance Q m) → Q ≡ P → frozen ≡ is_frozen b P m
unfolding is_frozen
frozen-here b Q P m frozen tested same = tested ∙ ap (λ R. list_any (is_frozen_write b.start b.freeze) (expand_all b.instance R m)) same

-- a replica whose last offer has these cells
pub read-there : (r : ReplicaState) (m : List Move) (P : Timetable) (reads : ReadsState) (wanted : Bool) → wanted ≡ true → P ≡ r.plan → reads ≡ record r.last.reads { pairs = reads_of r m }
    → record r { plan = P; last = record r.last { reads = reads } }
    ≡ record r { last = record r.last { reads = record r.last.reads { pairs = if wanted then reads_of r m else r.last.reads.pairs } } }
read-there r m P reads wanted on plan read = rw (on, plan, read) refl
