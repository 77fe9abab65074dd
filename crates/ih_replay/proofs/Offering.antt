-- The offer of a line's move, priced on a replica that has seen what the line says.
use Rattle.std.proofs.Common.{◌≡◌, ℕ, ◌+◌, ◌<◌, refl, arith, sym, ap, ◌∙◌, subst, List, [], ◌∷◌, length, take, drop, Some}
use Rattle.std.specs.List.{AllByRecursion}
use Rattle.ih_plan.specs.Expand.{IsMoveOf}
use Rattle.ih_plan.specs.Series.{price_of_all}
use Rattle.ih_plan.specs.declared.moves.Move.{Move}
use Rattle.ih_plan.proofs.ReadLemmas.{get-drop}
use Rattle.ih_journal.specs.declared.entries.Entry.{Entry}
use Rattle.ih_journal.specs.Tried.{Tried, tried}
use Rattle.ih_journal.specs.declared.entries.Verdict.{Verdict as Verdicts}
use Rattle.ih_journal.specs.Attempts.{TryNumber, try_after, last_by}
use Rattle.ih_journal.specs.Base.{Base}
use Rattle.ih_journal.specs.History.{plan_at}
use Rattle.ih_journal.proofs.Mapped.{attempt-one}
use Rattle.ih_journal.specs.Legal.{IsLegal, verdict_on}
use Rattle.ih_cellbook.specs.Offered.{Offered}
use Rattle.ih_cellbook.specs.Laws.{HasNoneBy}
use Rattle.ih_cellbook.specs.Offers.{HasSeenOwn, IsRightOffer, entry_of, next_number}
use Rattle.ih_cellbook.proofs.Committing.{attempt-is}
use Rattle.ih_cellbook.specs.Replicas.{IsOfferAfter, IsOfferOf, IsReplicaIn, IsRightFor}
use Rattle.ih_cellbook.specs.ReplicaState.{ReplicaState}
use Rattle.ih_cellbook.proofs.Within.{offered-right}
use Rattle.ih_replay.specs.Refusals.{FitsIn, of_attempt, of_entry}

-- ---- entries of which each check holds

pub legal-of : (b : Base) (H : List Tried) (e : Entry) → IsMoveOf b.instance e.mv → AllByRecursion (FitsIn b H (length H) e) of_entry → IsLegal b 1 H (tried e)
legal-of b H e fits all = record {
  entry = record {
    worker = all.0.0;
    attempt = all.1.1.0;
    move = (fits, tt);
    seen = all.1.1.1.0.0;
    after_own = all.1.1.1.0.1;
    price = all.1.1.1.1.1.0;
    verdict = all.1.1.1.1.1.1.0;
  };
  drawn = ap (λ (m : Move). m ∷ []) all.1.1.1.1.0 ∙ sym (attempt-one b e.worker e.number);
}

-- ---- the offer

none-behind : (H : List Tried) (w n : ℕ) → HasSeenOwn H w n → HasNoneBy w (drop n H)
none-behind H w n seen k e there own = let less = seen (n + k) e (sym (get-drop n H k) ∙ there) own in absurd (omega (arith, less))

module _ (b : Base) (H : List Tried) (r : ReplicaState) (stands : IsReplicaIn b H r) (e : Entry) (o : Offered) (offered : IsOfferOf r e.number (e.mv ∷ []) o)
    (at : r.seen ≡ e.seen) (own : r.worker ≡ e.worker) (all : AllByRecursion (FitsIn b H (length H) e) of_attempt) where
  there : IsOfferAfter b (take r.seen H) r.worker e.number (e.mv ∷ []) o
  there = offered b (take r.seen H) stands

  worker-is : o.worker ≡ e.worker
  worker-is = there.worker ∙ own

  seen-is : o.seen ≡ e.seen
  seen-is = there.seen ∙ sym stands.seen ∙ at

  pub price-is : o.price ≡ price_of_all b.instance (plan_at b H e.seen) (e.mv ∷ [])
  price-is = there.price ∙ ap (λ n. price_of_all b.instance (plan_at b H n) (e.mv ∷ [])) at

  pub right-is : IsRightFor r e.number o → IsRightOffer b H o
  right-is right =
      offered-right b H r stands e.number (e.mv ∷ []) o offered right (
        subst (λ w. w < b.options.workers) (sym worker-is) all.0.0,
        ap (next_number b.options H) worker-is ∙ all.1.0 ∙ ap (λ n. Some n) (sym there.number),
        subst (λ w. HasNoneBy w (drop o.seen H)) (sym worker-is) (subst (λ n. HasNoneBy e.worker (drop n H)) (sym seen-is) (none-behind H e.worker e.seen all.1.1.1.0.1)),
      )

  -- the verdict on the offer is that on the entry, where its price is
  judged-as : o.price ≡ e.price → verdict_on b H o.number o.seen o.moves o.price ≡ verdict_on b H e.number e.seen (e.mv ∷ []) e.price
  judged-as price = rw (there.number, seen-is, there.move, price) refl

  -- so the entry's price is that of its moves there, and the verdict on the offer that on the entry
  pub follow-is : (v : Verdicts) → o.price ≡ e.price → v ≡ verdict_on b H o.number o.seen o.moves o.price
      → (e.price ≡ price_of_all b.instance (plan_at b H e.seen) (e.mv ∷ [])) × (v ≡ verdict_on b H e.number e.seen (e.mv ∷ []) e.price)
  follow-is v price judged = (sym price ∙ price-is, judged ∙ judged-as price)

  again-is : (try_after b.options (last_by e.worker H)).again ≡ e.again
  again-is =
      let own : Some (record { number = e.number; again = (try_after b.options (last_by e.worker H)).again }) ≡ Some (let a : TryNumber = record { number = e.number; again = e.again } in a) =
      sym (attempt-is b.options H e.worker e.number all.1.0) ∙ all.1.1.0 in
      some-again (try_after b.options (last_by e.worker H)).again e.again e.number own
    where
      some-again : (x y n : ℕ) → Some (let a : TryNumber = record { number = n; again = x } in a) ≡ Some (record { number = n; again = y }) → x ≡ y
      some-again x y n h = let same : (let a : TryNumber = record { number = n; again = x } in a) ≡ record { number = n; again = y } = cc in ap (λ (a : TryNumber). a.again) same

  pub entry-is : (v : Verdicts) → v ≡ e.verdict → o.price ≡ e.price → entry_of b H o v ≡ tried e
  entry-is v verdict price = rw (worker-is, there.number, again-is, seen-is, there.move, price, verdict) refl
