-- The machine of workers that look and offer: each event keeps the history legal, the counters right and the prices
-- exact.
use Rattle.std.proofs.Common.{subst, ◌≡◌, ℕ, ◌+◌, ◌≤◌, refl, arith, sym, ap, ◌∙◌, Bool, true, false, List, [], ◌∷◌, ◌++◌, length, Some, None}
use Rattle.std.specs.Prelude.{option_map, if◌then◌else◌, ◌==◌}
use Rattle.ih_plan.specs.declared.moves.Move.{Move}
use Rattle.ih_plan.specs.Series.{price_of_all}
use Rattle.ih_journal.specs.Tried.{Tried}
use Rattle.ih_journal.specs.Attempts.{is_done, TryNumber, try_after, last_by, next_try}
use Rattle.ih_journal.specs.Base.{Base}
use Rattle.ih_journal.specs.History.{touches_since, plan_at}
use Rattle.ih_journal.specs.Legal.{IsLegalButDraw}
use Rattle.ih_journal.proofs.Growth.{length-more}
use Rattle.ih_journal.specs.declared.entries.Verdict.{Verdict}
use Rattle.ih_journal.specs.Legal.{verdict_on}
use Rattle.ih_cellbook.specs.Offered.{Offered}
use Rattle.ih_cellbook.specs.Counters.{verdict_by_counters}
use Rattle.ih_cellbook.specs.Offers.{entry_of}
use Rattle.ih_cellbook.proofs.Committing.{AreVersionsBy}
use Rattle.ih_cellbook.specs.Core.{State, Event, looks, offers, opening, MayOffer, MayCome, step, run_from, IsScheduleFrom, IsLegalState, entry_in, verdict_in, seen_by_at}
use Rattle.ih_cellbook.specs.Keeping.{IsBase}
use Rattle.ih_cellbook.specs.Offers.{IsRightOffer, offer_at}
use Rattle.ih_cellbook.proofs.Committing.{entry-legal, legal_but-moves, legal_but-more, legal_but-none, verdict-same, versions-more}
use Rattle.ih_cellbook.proofs.ExactPrices.{prices-exact}

-- ---- events

-- what a worker of the machine offers is right for the history
pub offer_at-right : (b : Base) (s : State) (w n : ℕ) (m : List Move) → MayOffer b s w n m → ((v : ℕ) → s.seen_by v ≤ length s.history) → IsRightOffer b s.history (offer_at b s.history w n m)
unfolding next_try
offer_at-right b s w n m may seen_by =
    let known = may.seen in
    let most = seen_by w in
    record {
      worker = may.worker;
      number = rw may.not_done refl;
      move = may.move;
      seen = omega (arith, known, most);
      after_own = may.after_own;
      price = refl;
      reads = λ asked. refl;
      frozen = refl;
    }

front-most : (seen_by : ℕ → ℕ) (w front most : ℕ) → ((v : ℕ) → seen_by v ≤ most) → front ≤ most → (v : ℕ) → seen_by_at seen_by w front v ≤ most
front-most seen_by w front most h new v = by_case (v == w)
  where
    by_case : (t : Bool) → (if t then front else seen_by v) ≤ most
    by_case true = new
    by_case false = h v

module _ (b : Base) (base : IsBase b) (s : State) (legal : IsLegalState b s) where
  look-legal : (w : ℕ) → IsLegalState b (step b s (looks w))
  look-legal w = record {
    legal = legal.legal;
    versions = legal.versions;
    exact = legal.exact;
    seen_by = front-most s.seen_by w (length s.history) (length s.history) legal.seen_by (omega arith);
  }

  offer-legal : (w n : ℕ) (m : List Move) → MayOffer b s w n m → IsLegalState b (step b s (offers w n m))
  offer-legal w n m may =
      let right = offer_at-right b s w n m may legal.seen_by in
      let one : IsLegalButDraw b s.history (entry_in b s w n m) =
      entry-legal b s.history (offer_at b s.history w n m) (verdict_in b s w n m) right (verdict-same b s.history s.counters (offer_at b s.history w n m) legal.versions right) in
      let len = length-more s.history (entry_in b s w n m) in
      record {
        legal = legal_but-more b s.history (entry_in b s w n m) legal.legal one;
        versions = versions-more b s.history (entry_in b s w n m) s.counters base.start (legal_but-moves b s.history legal.legal) one legal.versions;
        exact = prices-exact b (s.history ++ entry_in b s w n m ∷ []) base.start (legal_but-more b s.history (entry_in b s w n m) legal.legal one);
        seen_by = front-most s.seen_by w (length s.history + 1) (length (s.history ++ entry_in b s w n m ∷ [])) (λ v. let most = legal.seen_by v in omega (arith, len, most)) (omega (arith, len));
      }

  step-legal : (v : Event) → MayCome b s v → IsLegalState b (step b s v)
  step-legal (looks w) may = look-legal w
  step-legal (offers w n m) may = offer-legal w n m may

opening-legal : (b : Base) → IsLegalState b opening
unfolding touches_since
opening-legal b = record {
  legal = legal_but-none b;
  versions = λ n h. refl;
  exact = λ k e h accepted. absurd (let no : None ≡ Some e = h in cc);
  seen_by = λ w. omega arith;
}

run-legal : (b : Base) (base : IsBase b) (events : List Event) (s : State) → IsLegalState b s → IsScheduleFrom b s events → IsLegalState b (run_from b s events)
unfolding run_from IsScheduleFrom
run-legal b base [] s legal may = legal
run-legal b base (v ∷ vs) s legal may = run-legal b base vs (step b s v) (step-legal b base s legal v may.0) may.1

pub schedule-legal : (b : Base) (base : IsBase b) (events : List Event) → IsScheduleFrom b opening events → IsLegalState b (run_from b opening events)
schedule-legal b base events may = run-legal b base events opening (opening-legal b) may

-- ---- what a book commits is the machine's event

-- an offer that is right is what the worker of the machine makes
module _ (b : Base) (H : List Tried) (o : Offered) (right : IsRightOffer b H o) where
  number-is : (try_after b.options (last_by o.worker H)).number ≡ o.number
  unfolding next_try
  number-is = by_case (is_done b.options H o.worker) right.number
    where
      by_case : (t : Bool) → option_map (λ (a : TryNumber). a.number) (if t then None else Some (try_after b.options (last_by o.worker H))) ≡ Some o.number
          → (try_after b.options (last_by o.worker H)).number ≡ o.number
      by_case true h = absurd (let no : None ≡ Some o.number = h in cc)
      by_case false h = let e : Some (try_after b.options (last_by o.worker H)).number ≡ Some o.number = h in cc

  made-right : IsRightOffer b H (offer_at b H o.worker o.seen o.moves)
  made-right = record {
    worker = right.worker;
    number = right.number ∙ ap (λ n. Some n) (sym number-is);
    move = right.move;
    seen = right.seen;
    after_own = right.after_own;
    price = refl;
    reads = λ asked. refl;
    frozen = refl;
  }

  pub event-same : (s : State) (v : Verdict) → s.history ≡ H → AreVersionsBy b s.history s.counters → v ≡ verdict_on b H o.number o.seen o.moves o.price
      → (step b s (offers o.worker o.seen o.moves)).history ≡ H ++ entry_of b H o v ∷ []
  event-same s v same versions judged =
      let here : AreVersionsBy b H s.counters = subst (λ G. AreVersionsBy b G s.counters) same versions in
      let made = verdict-same b H s.counters (offer_at b H o.worker o.seen o.moves) here made-right in
      let number = number-is in
      let price = right.price in
      let verdict : verdict_by_counters b.instance b.options s.counters (offer_at b H o.worker o.seen o.moves) ≡ v =
      made ∙ ap (λ n. verdict_on b H n o.seen o.moves (price_of_all b.instance (plan_at b H o.seen) o.moves)) number
      ∙ ap (verdict_on b H o.number o.seen o.moves) (sym price) ∙ sym judged in
      let entry : entry_of b H (offer_at b H o.worker o.seen o.moves) (verdict_by_counters b.instance b.options s.counters (offer_at b H o.worker o.seen o.moves)) ≡ entry_of b H o v =
      ap (entry_of b H (offer_at b H o.worker o.seen o.moves)) verdict
      ∙ ap (λ n. let e : Tried = record (entry_of b H o v) { number = n; price = price_of_all b.instance (plan_at b H o.seen) o.moves } in e) number
      ∙ ap (λ p. let e : Tried = record (entry_of b H o v) { price = p } in e) (sym price) in
      ap (λ G. G ++ entry_of b G (offer_at b G o.worker o.seen o.moves) (verdict_by_counters b.instance b.options s.counters (offer_at b G o.worker o.seen o.moves)) ∷ []) same
      ∙ ap (λ e. H ++ e ∷ []) entry
