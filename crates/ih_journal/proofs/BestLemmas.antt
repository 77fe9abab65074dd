-- The best of a history, as the history grows.
use Rattle.std.proofs.Common.{◌≡◌, ℕ, ◌+◌, ◌<◌, ◌≤◌, refl, sym, ap, ◌∙◌, arith, subst, inl, inr, Bool, true, false, List, [], ◌∷◌, ◌++◌, length, Option, Some, None, ℤ}
use Rattle.std.specs.Prelude.{if◌then◌else◌, int_lt, ◌≤ℤ◌, ◌<ℤ◌, ◌⊎◌}
use Rattle.std.proofs.lemmas.Int.{ints}
use Rattle.std.proofs.lemmas.Bool.{cases_lt}
use Rattle.ih_tables.specs.Bills.{feasible, cost}
use Rattle.ih_plan.specs.BillOf.{bill_of}
use Rattle.ih_plan.proofs.TestLemmas.{below, not-below}
use Rattle.ih_journal.specs.Tried.{Tried}
use Rattle.ih_journal.specs.Base.{Base}
use Rattle.ih_journal.specs.History.{plan_at, plan_after}
use Rattle.ih_journal.specs.Best.{IsBest, HasNone, BestIs, best_with, IsFeasibleAt, cost_at}
use Rattle.ih_journal.proofs.Growth.{plan_at-earlier, plan_at-end, length-more}

-- ---- a history has one best

not-later : (b : Base) (H : List Tried) (k j : ℕ) → IsBest b H k → IsBest b H j → k < j → ⊥
not-later b H k j here there less =
    let over = there.first k less here.works in
    let under = here.cheapest j there.place there.works in
    omega (arith, ints, over, under)

pub best-one : (b : Base) (H : List Tried) (k j : ℕ) → IsBest b H k → IsBest b H j → k ≡ j
best-one b H k j here there = elim (cases_lt k j) [
  | inl less ↦ absurd (not-later b H k j here there less)
  | inr over ↦ elim (cases_lt j k) [
    | inl less ↦ absurd (not-later b H j k there here less)
    | inr under ↦ omega (arith, over, under)
  ]
]

pub best-or-none : (b : Base) (H : List Tried) (k : ℕ) → IsBest b H k → HasNone b H → ⊥
best-or-none b H k best none = let clash : true ≡ false = sym best.works ∙ none k best.place in cc

-- the facts of a place depend on the entries before it alone
same-bill : (b : Base) (H : List Tried) (e : Tried) (k : ℕ) → k ≤ length H → bill_of b.instance (plan_at b (H ++ e ∷ []) k) ≡ bill_of b.instance (plan_at b H k)
same-bill b H e k h = ap (bill_of b.instance) (plan_at-earlier b H (e ∷ []) k h)

same-cost : (b : Base) (H : List Tried) (e : Tried) (k : ℕ) → k ≤ length H → cost_at b (H ++ e ∷ []) k ≡ cost_at b H k
same-cost b H e k h = ap (cost b.instance.weights) (same-bill b H e k h)

last-bill : (b : Base) (H : List Tried) (e : Tried) (k : ℕ) → k ≡ length H + 1 → bill_of b.instance (plan_at b (H ++ e ∷ []) k) ≡ bill_of b.instance (plan_after b (H ++ e ∷ []))
last-bill b H e k h = let len = length-more H e in ap (bill_of b.instance) (plan_at-end b (H ++ e ∷ []) k (omega arith))

-- a place of the longer history is an earlier one, or the last
earlier-or-last : (H : List Tried) (e : Tried) (k : ℕ) → k ≤ length (H ++ e ∷ []) → (k ≤ length H) ⊎ (k ≡ length H + 1)
earlier-or-last H e k h = let len = length-more H e in elim (cases_lt k (length H + 1)) [
  | inl low ↦ inl (omega arith)
  | inr high ↦ inr (omega arith)
]

-- ---- the empty history

pub best-start : (b : Base) (f : Bool) (c : ℤ) → feasible (bill_of b.instance (plan_after b [])) ≡ f → cost b.instance.weights (bill_of b.instance (plan_after b [])) ≡ c
    → BestIs b [] (best_with None 0 f c)
best-start b false c works costs = λ j h. ap (λ P. feasible (bill_of b.instance P)) (plan_at-end b [] j (omega arith)) ∙ works
best-start b true c works costs = (
  record {
    place = omega arith;
    works = ap (λ P. feasible (bill_of b.instance P)) (plan_at-end b [] 0 (omega arith)) ∙ works;
    cheapest = λ j h ok. let zero-place : j ≡ 0 = omega arith in rw zero-place (let same : cost_at b [] 0 ≡ cost_at b [] 0 = refl in omega (arith, ints));
    first = λ j h ok. absurd (omega arith);
  },
  sym (ap (λ P. cost b.instance.weights (bill_of b.instance P)) (plan_at-end b [] 0 (omega arith)) ∙ costs),
)

-- ---- one entry more

module _ (b : Base) (H : List Tried) (e : Tried) (f : Bool) (c : ℤ)
    (works : feasible (bill_of b.instance (plan_after b (H ++ e ∷ []))) ≡ f)
    (costs : cost b.instance.weights (bill_of b.instance (plan_after b (H ++ e ∷ []))) ≡ c) where
  works-last : (k : ℕ) → k ≡ length H + 1 → feasible (bill_of b.instance (plan_at b (H ++ e ∷ []) k)) ≡ f
  works-last k h = ap feasible (last-bill b H e k h) ∙ works

  cost-last : (k : ℕ) → k ≡ length H + 1 → cost_at b (H ++ e ∷ []) k ≡ c
  cost-last k h = ap (cost b.instance.weights) (last-bill b H e k h) ∙ costs

  works-earlier : (k : ℕ) → k ≤ length H → IsFeasibleAt b (H ++ e ∷ []) k → IsFeasibleAt b H k
  works-earlier k h ok = sym (ap feasible (same-bill b H e k h)) ∙ ok

  none-more : f ≡ false → HasNone b H → HasNone b (H ++ e ∷ [])
  none-more never none k h = elim (earlier-or-last H e k h) [
    | inl low ↦ ap feasible (same-bill b H e k low) ∙ none k low
    | inr last ↦ works-last k last ∙ never
  ]

  -- the best stays, where the new timetable isn't feasible or isn't cheaper
  best-stays : (k : ℕ) → IsBest b H k → (f ≡ true → cost_at b H k ≤ℤ c) → IsBest b (H ++ e ∷ []) k
  best-stays k best dear =
      let len = length-more H e in
      let place = best.place in
      let own = same-cost b H e k place in
      record {
        place = omega arith;
        works = ap feasible (same-bill b H e k place) ∙ best.works;
        cheapest = λ j h ok. elim (earlier-or-last H e j h) [
          | inl low ↦
              let there = same-cost b H e j low in
              let less = best.cheapest j low (works-earlier j low ok) in
              rw (own, there) less
          | inr last ↦ rw (own, cost-last j last) (dear (sym (works-last j last) ∙ ok))
        ];
        first = λ j h ok.
            let low : j ≤ length H = omega arith in
            rw (own, same-cost b H e j low) (best.first j h (works-earlier j low ok));
      }

  -- the new timetable is feasible, and cheaper than all before it
  best-new : f ≡ true → ((j : ℕ) → j ≤ length H → IsFeasibleAt b H j → c <ℤ cost_at b H j) → IsBest b (H ++ e ∷ []) (length H + 1)
  best-new ok less =
      let len = length-more H e in
      let own = cost-last (length H + 1) refl in
      record {
        place = omega arith;
        works = works-last (length H + 1) refl ∙ ok;
        cheapest = λ j h there. elim (earlier-or-last H e j h) [
          | inl low ↦ let under = less j low (works-earlier j low there) in rw (own, same-cost b H e j low) (omega (arith, ints))
          | inr last ↦ let same : c ≡ c = refl in rw (own, cost-last j last) (omega (arith, ints))
        ];
        first = λ j h there. let low : j ≤ length H = omega arith in rw (own, same-cost b H e j low) (less j low (works-earlier j low there));
      }

  more-false : (best : Option (ℕ × ℤ)) → f ≡ false → BestIs b H best → BestIs b (H ++ e ∷ []) best
  more-false None never none = none-more never none
  more-false (Some k) never best = (
    best-stays k.0 best.0 (λ ok. absurd (let clash : false ≡ true = sym never ∙ ok in cc)),
    best.1 ∙ sym (same-cost b H e k.0 best.0.place),
  )

  more-true : (best : Option (ℕ × ℤ)) → f ≡ true → BestIs b H best → BestIs b (H ++ e ∷ []) (best_with best (length H + 1) true c)
  more-true None ok none = (
    best-new ok (λ j h there. absurd (let clash : false ≡ true = sym (none j h) ∙ there in cc)),
    sym (cost-last (length H + 1) refl),
  )
  more-true (Some k) ok best = by_case (int_lt c k.1) refl
    where
      by_case : (t : Bool) → int_lt c k.1 ≡ t → BestIs b (H ++ e ∷ []) (if t then Some (length H + 1, c) else Some k)
      by_case true less = (
        best-new ok (λ j h there.
            let under = below c k.1 less in
            let own = best.1 in
            let most = best.0.cheapest j h there in
            omega (arith, ints)),
        sym (cost-last (length H + 1) refl),
      )
      by_case false dear = (
        best-stays k.0 best.0 (λ works. let over = not-below c k.1 dear in let own = best.1 in rw (sym own) over),
        best.1 ∙ sym (same-cost b H e k.0 best.0.place),
      )

  kept : (o : Option (ℕ × ℤ)) → o ≡ best_with o (length H + 1) false c
  kept None = refl
  kept (Some k) = refl

  pub best-more : (best : Option (ℕ × ℤ)) → BestIs b H best → BestIs b (H ++ e ∷ []) (best_with best (length H + 1) f c)
  best-more best is = by_case f refl
    where
      by_case : (t : Bool) → f ≡ t → BestIs b (H ++ e ∷ []) (best_with best (length H + 1) t c)
      by_case true ok = more-true best ok is
      by_case false never = subst (BestIs b (H ++ e ∷ [])) (kept best) (more-false best never is)
