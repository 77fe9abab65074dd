-- The best of all rounds, as one more is searched.
use Rattle.std.proofs.Common.{◌≡◌, ℕ, ◌<◌, ◌≤◌, refl, sym, ◌∙◌, subst, arith, inl, inr, Bool, true, false, List, [], ◌∷◌, ◌++◌, length, Option, Some, None, ℤ}
use Rattle.std.specs.Prelude.{slice_get, ◌≤ℤ◌, ◌<ℤ◌, int_lt, if◌then◌else◌, not}
use Rattle.std.proofs.lemmas.Int.{ints}
use Rattle.std.proofs.lemmas.List.{length-map}
use Rattle.std.proofs.lemmas.Option.{slice_get_within}
use Rattle.ih_journal.specs.declared.entries.Entry.{Entry}
use Rattle.ih_journal.specs.Tried.{tried, tries}
use Rattle.ih_journal.specs.Base.{Base}
use Rattle.ih_journal.specs.Best.{BestIs, IsBest, HasNone}
use Rattle.ih_rounds.specs.Best.{HaveNone, IsBestOf, IsFeasibleIn, cost_in}
use Rattle.ih_plan.specs.Timetable.{IsPlanOf, Timetable}
use Rattle.ih_plan.proofs.TestLemmas.{below, not-below}
use Rattle.ih_plan.proofs.ReadLemmas.{get-last, get-front, get-more}
use Rattle.ih_rounds.specs.declared.running.Held.{Held}
use Rattle.ih_rounds.specs.Ends.{HoldsBest, better_of}
use Rattle.ih_rounds.specs.Rounds.{Round, base_in, next_start}

-- a place of a history is one of what its entries stand for
in-tries : (H : List Entry) (j : ℕ) → j ≤ length H → j ≤ length (tries H)
in-tries H j h = let many = length-map H tried in omega (arith, h, many)

in-entries : (H : List Entry) (j : ℕ) → j ≤ length (tries H) → j ≤ length H
in-entries H j h = let many = length-map H tried in omega (arith, h, many)

module _ (b : Base) (rs : List Round) (r : Round) where
  none-more : HaveNone b rs → HasNone (base_in b (length rs) r) (tries r.history) → HaveNone b (rs ++ r ∷ [])
  none-more none own q s h = elim (get-more rs r s q h) [
    | inl earlier ↦ none q s earlier.1
    | inr last ↦ subst (λ t. HasNone (base_in b q t) (tries t.history)) last.1 (subst (λ n. HasNone (base_in b n r) (tries r.history)) (sym last.0) own)
  ]

  -- the best stays, where no timetable of the new round is cheaper
  stays : (q k : ℕ) (best : IsBestOf b rs q k)
      → ((j : ℕ) → j ≤ length r.history → IsFeasibleIn b (length rs) r j → cost_in b q best.round k ≤ℤ cost_in b (length rs) r j)
      → IsBestOf b (rs ++ r ∷ []) q k
  stays q k best dear =
      let inside = slice_get_within rs q best.round best.is in
      record {
        round = best.round;
        is = get-front rs (r ∷ []) q best.round best.is;
        place = best.place;
        works = best.works;
        cheapest = λ p j s h in-range works. elim (get-more rs r s p h) [
          | inl earlier ↦ best.cheapest p j s earlier.1 in-range works
          | inr last ↦ by_last p j s (sym last.0) last.1 in-range works
        ];
        first = λ p j s h in-range works before. elim (get-more rs r s p h) [
          | inl earlier ↦ best.first p j s earlier.1 in-range works before
          | inr last ↦ let at = last.0 in absurd (elim before [
            | inl less ↦ omega arith
            | inr same ↦ let e = same.0 in omega arith
          ])
        ];
      }
    where
      by_last : (p j : ℕ) (s : Round) → length rs ≡ p → r ≡ s → j ≤ length s.history → IsFeasibleIn b p s j → cost_in b q best.round k ≤ℤ cost_in b p s j
      by_last p j s at is in-range works =
          subst (λ t. j ≤ length t.history → IsFeasibleIn b p t j → cost_in b q best.round k ≤ℤ cost_in b p t j) is
          (subst (λ n. j ≤ length r.history → IsFeasibleIn b n r j → cost_in b q best.round k ≤ℤ cost_in b n r j) at (dear j)) in-range works

  -- the new round's best is that of all, where each timetable of the rounds before costs more
  newer : (k : ℕ) → IsBest (base_in b (length rs) r) (tries r.history) k
      → ((p j : ℕ) (s : Round) → slice_get rs p ≡ Some s → j ≤ length s.history → IsFeasibleIn b p s j → cost_in b (length rs) r k <ℤ cost_in b p s j)
      → IsBestOf b (rs ++ r ∷ []) (length rs) k
  newer k best cheap = record {
    round = r;
    is = get-last rs r;
    place = in-entries r.history k best.place;
    works = best.works;
    cheapest = λ p j s h in-range works. elim (get-more rs r s p h) [
      | inl earlier ↦ let less = cheap p j s earlier.1 in-range works in omega (arith, ints)
      | inr last ↦ by_last p j s (sym last.0) last.1 in-range works
    ];
    first = λ p j s h in-range works before. elim (get-more rs r s p h) [
      | inl earlier ↦ cheap p j s earlier.1 in-range works
      | inr last ↦ elim before [
        | inl less ↦ let at = last.0 in absurd (omega arith)
        | inr same ↦ by_first p j s (sym last.0) last.1 in-range works same.1
      ]
    ];
  }
    where
      by_last : (p j : ℕ) (s : Round) → length rs ≡ p → r ≡ s → j ≤ length s.history → IsFeasibleIn b p s j → cost_in b (length rs) r k ≤ℤ cost_in b p s j
      by_last p j s at is in-range works =
          subst (λ t. j ≤ length t.history → IsFeasibleIn b p t j → cost_in b (length rs) r k ≤ℤ cost_in b p t j) is
          (subst (λ n. j ≤ length r.history → IsFeasibleIn b n r j → cost_in b (length rs) r k ≤ℤ cost_in b n r j) at (λ inside. best.cheapest j (in-tries r.history j inside))) in-range works

      by_first : (p j : ℕ) (s : Round) → length rs ≡ p → r ≡ s → j ≤ length s.history → IsFeasibleIn b p s j → j < k → cost_in b (length rs) r k <ℤ cost_in b p s j
      by_first p j s at is in-range works less =
          subst (λ t. IsFeasibleIn b p t j → cost_in b (length rs) r k <ℤ cost_in b p t j) is
          (subst (λ n. IsFeasibleIn b n r j → cost_in b (length rs) r k <ℤ cost_in b n r j) at (best.first j less)) works

-- ---- the best so far

pub held-more : (b : Base) (rs : List Round) (r : Round) (best : Option Held) (own : Option (ℕ × ℤ)) (count : ℕ) (P : Timetable) → HoldsBest b rs best
    → BestIs (base_in b (length rs) r) (tries r.history) own → count ≡ length r.history → P ≡ next_start (base_in b (length rs) r) (tries r.history) own → IsPlanOf b.instance P
    → HoldsBest b (rs ++ r ∷ []) (better_of best (length rs) own count P)
unfolding newer stays
held-more b rs r None None count P none own len next fits = none-more b rs r none own
held-more b rs r None (Some own) count P none is len next fits = record {
  found = record {
    best = newer b rs r own.0 is.0 (λ p j s h in-range works. absurd (let no : false ≡ true = sym (none p s h j (in-tries s.history j in-range)) ∙ works in cc));
    count_is = len;
    plan = next;
    fits = fits;
  };
  cost = is.1;
}
held-more b rs r (Some h) None count P held none len next fits = record {
  found = record {
    best = stays b rs r h.round h.place held.found.best (λ j in-range works. absurd (let no : false ≡ true = sym (none j (in-tries r.history j in-range)) ∙ works in cc));
    count_is = held.found.count_is;
    plan = held.found.plan;
    fits = held.found.fits;
  };
  cost = held.cost;
}
held-more b rs r (Some h) (Some own) count P held is len next fits = by_case (int_lt own.1 h.cost) refl
  where
    by_case : (t : Bool) → int_lt own.1 h.cost ≡ t
        → HoldsBest b (rs ++ r ∷ []) (if not t then Some h else Some (record { round = length rs; place = own.0; count = count; cost = own.1; plan = P }))
    by_case true less = record {
      found = record {
        best = newer b rs r own.0 is.0 (λ p j s there in-range works.
            let under = below own.1 h.cost less in
            let most = held.found.best.cheapest p j s there in-range works in
            let here = is.1 in
            let old = held.cost in
            omega (arith, ints));
        count_is = len;
        plan = next;
        fits = fits;
      };
      cost = is.1;
    }
    by_case false dear = record {
      found = record {
        best = stays b rs r h.round h.place held.found.best (λ j in-range works.
            let over = not-below own.1 h.cost dear in
            let most = is.0.cheapest j (in-tries r.history j in-range) works in
            let here = is.1 in
            let old = held.cost in
            omega (arith, ints));
        count_is = held.found.count_is;
        plan = held.found.plan;
        fits = held.found.fits;
      };
      cost = held.cost;
    }
