-- A replica after one entry more stands for the longer history.
use Rattle.std.proofs.Common.{◌≡◌, ℕ, ◌+◌, ◌<◌, ◌≤◌, ◌^◌, arith, sym, ap, ◌∙◌, subst, true, List, [], ◌∷◌, ◌++◌, length, append_assoc, take, inl, inr, Some}
use Rattle.std.specs.Prelude.{slice_get, slice_index, slice_index_or}
use Rattle.std.proofs.Math.Seq.{take-append-add}
use Rattle.std.proofs.lemmas.Bool.{cases_lt}
use Rattle.std.proofs.lemmas.List.{get_or_past, take-append-le, take_more}
use Rattle.std.proofs.lemmas.Option.{slice_get-get_or}
use Rattle.ih_plan.specs.Sums.{bit}
use Rattle.ih_plan.specs.Cells.{cell_at, cell_count}
use Rattle.ih_plan.specs.Series.{footprint_of_all}
use Rattle.ih_plan.proofs.ReadLemmas.{get-behind}
use Rattle.ih_journal.specs.Tried.{Tried}
use Rattle.ih_journal.specs.Base.{Base}
use Rattle.ih_journal.specs.History.{after_entry, touches_accepted, is_accepted, plan_at, version}
use Rattle.ih_journal.specs.Legal.{IsLegalButDraw}
use Rattle.ih_journal.proofs.Growth.{length-more, plan_after-more}
use Rattle.ih_cellbook.specs.Legal.{AreLegalButDraws}
use Rattle.ih_cellbook.specs.Offers.{reads_after}
use Rattle.ih_cellbook.proofs.Committing.{accepted-is, legal_but-more, legal_but-moves, reads-cells}
use Rattle.ih_cellbook.proofs.Exact.{accepted-local}
use Rattle.ih_cellbook.proofs.EntryLimits.{legal-few}
use Rattle.ih_cellbook.proofs.Versions.{version-more, version-most}
use Rattle.ih_snapshot.specs.Keeping.{CanTake, HasTaken, IsOwnRead}
use Rattle.ih_cellbook.specs.Replicas.{IsReplicaOf, IsReadFrom}
use Rattle.ih_cellbook.specs.ReplicaState.{ReplicaState}
use Rattle.ih_snapshot.proofs.Touching.{keys}

-- ---- entries that follow

-- the next of them may come after those before it
pub legal-next : (b : Base) (H es : List Tried) (k : ℕ) (e : Tried) → AreLegalButDraws b (H ++ es) → slice_get es k ≡ Some e → IsLegalButDraw b (H ++ take k es) e
legal-next b H es k e legal there =
    subst (λ G. IsLegalButDraw b G e) (take-append-add H es k) (legal (length H + k) e (get-behind H es k ∙ there))

-- ---- what can be taken over

module _ (H : List Tried) (r : ReplicaState) (stands : IsReplicaOf r.base H r) where
  short : length H ≤ 10 ^ 6
  short = let few = (legal-few r.base H stands.legal).most in let most = stands.lawful.lawful.entries in omega (arith, few, most)

  small : (n : ℕ) → slice_index r.versions n ≤ 10 ^ 6
  small n =
      let len = stands.versions.len in
      let few = short in
      elim (cases_lt n (cell_count r.base.instance)) [
        | inl below ↦ let same = stands.versions.each n below in let most = version-most r.base H (cell_at r.base.instance n) in omega (arith, same, most, few)
        | inr past ↦ let none = get_or_past r.versions n 0 (omega arith) in omega (arith, none)
      ]

  module _ (e : Tried) (legal : IsLegalButDraw r.base H e) where
    -- an accepted move of the last offer touches the cells that the offer read
    own : is_accepted e.verdict ≡ true → IsOwnRead r.base.instance r.plan r.last e
    own on some seen mv =
        let last : IsReadFrom r.base H r.last = stands.last in
        let verdict = legal.verdict in
        let local = accepted-local r.base H e.number e.seen e.moves e.price stands.lawful.start (legal_but-moves r.base H stands.legal) legal.move (sym verdict ∙ accepted-is e.verdict on) in
        ap keys (elim last.reads [ inl none ↦ absurd (let len = ap length none in omega (arith, len)) | inr read ↦ read ])
        ∙ reads-cells r.base (take r.last.seen H) r.last.moves
        ∙ ap (λ n. footprint_of_all r.base.instance (plan_at r.base H n) r.last.moves) (sym seen)
        ∙ ap (footprint_of_all r.base.instance (plan_at r.base H e.seen)) (sym mv)
        ∙ sym local.numbers
        ∙ ap (λ P. footprint_of_all r.base.instance P e.moves) (sym stands.plan)

    can : CanTake r e
    can = record {
      move = legal.move;
      seen = (let few = short in let same = stands.seen in omega (arith, few, same));
      small = small;
      own = own;
    }

    module _ (s : ReplicaState) (taken : HasTaken r e s) where
      each-more : (n : ℕ) → n < cell_count r.base.instance → slice_index s.versions n ≡ version r.base (H ++ e ∷ []) (cell_at r.base.instance n)
      each-more n h =
          taken.each n h
          ∙ ap (λ k. k + bit (touches_accepted r.base.instance r.plan e (cell_at r.base.instance n))) (stands.versions.each n h)
          ∙ ap (λ P. version r.base H (cell_at r.base.instance n) + bit (touches_accepted r.base.instance P e (cell_at r.base.instance n))) stands.plan
          ∙ sym (version-more r.base H e (cell_at r.base.instance n))

      last-more : IsReadFrom r.base (H ++ e ∷ []) s.last
      last-more =
          let most = stands.last.seen in
          let more = length-more H e in
          subst (IsReadFrom r.base (H ++ e ∷ [])) (sym taken.last) (record {
            seen = omega (arith, most, more);
            reads = elim stands.last.reads [
              | inl none ↦ inl none
              | inr read ↦ inr (read ∙ ap (λ G. reads_after r.base G r.last.moves) (sym (take-append-le r.last.seen H (e ∷ []) most)))
            ];
          })

      more : IsReplicaOf r.base (H ++ e ∷ []) s
      more = record {
        base = taken.base;
        lawful = stands.lawful;
        legal = legal_but-more r.base H e stands.legal legal;
        seen = (let one = taken.seen in let same = stands.seen in let len = length-more H e in omega (arith, one, same, len));
        plan = taken.plan ∙ ap (λ P. after_entry r.base.instance P e) stands.plan ∙ sym (plan_after-more r.base H e);
        versions = record { len = taken.len ∙ stands.versions.len; each = each-more };
        last = last-more;
      }

-- ---- the same with the search by its own name

own-base : (b : Base) (H : List Tried) (r : ReplicaState) → IsReplicaOf b H r → IsReplicaOf r.base H r
own-base b H r stands = subst (λ c. IsReplicaOf c H r) (sym stands.base) stands

pub can-take : (b : Base) (H : List Tried) (r : ReplicaState) (e : Tried) → IsReplicaOf b H r → IsLegalButDraw b H e → CanTake r e
can-take b H r e stands legal = can H r (own-base b H r stands) e (subst (λ c. IsLegalButDraw c H e) (sym stands.base) legal)

pub stands-more : (b : Base) (H : List Tried) (r : ReplicaState) (e : Tried) (s : ReplicaState) → IsReplicaOf b H r → IsLegalButDraw b H e → HasTaken r e s
    → IsReplicaOf b (H ++ e ∷ []) s
stands-more b H r e s stands legal taken =
    subst (λ c. IsReplicaOf c (H ++ e ∷ []) s) stands.base (more H r (own-base b H r stands) e (subst (λ c. IsLegalButDraw c H e) (sym stands.base) legal) s taken)

-- ---- one of the entries that follow

module _ (b : Base) (H es : List Tried) (k : ℕ) (d : Tried) (r : ReplicaState) (stands : IsReplicaOf b (H ++ take k es) r) (legal : AreLegalButDraws b (H ++ es)) (h : k < length es) where
  next : IsLegalButDraw b (H ++ take k es) (slice_index_or es k d)
  next = legal-next b H es k (slice_index_or es k d) legal (slice_get-get_or es k d h)

  pub can-next : CanTake r (slice_index_or es k d)
  can-next = can-take b (H ++ take k es) r (slice_index_or es k d) stands next

  pub stands-next : (s : ReplicaState) → HasTaken r (slice_index_or es k d) s → IsReplicaOf b (H ++ take (k + 1) es) s
  stands-next s taken =
      let longer : (H ++ take k es) ++ slice_index_or es k d ∷ [] ≡ H ++ take (k + 1) es =
      append_assoc H (take k es) (slice_index_or es k d ∷ []) ∙ ap (λ xs. H ++ xs) (sym (take_more es k d h)) in
      subst (λ G. IsReplicaOf b G s) longer (stands-more b (H ++ take k es) r (slice_index_or es k d) s stands next taken)
