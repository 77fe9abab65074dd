-- The best of a round costs no more than that of any round before it.
use Rattle.std.proofs.Common.{◌≡◌, ℕ, zero, suc, ◌+◌, ◌-◌, ◌<◌, refl, sym, ap, ◌∙◌, subst, arith, inl, inr, true, false, List, [], ◌∷◌, ◌++◌, length, take, get_or, Option, Some, None, ℤ}
use Rattle.std.specs.Prelude.{slice_get, ◌≤ℤ◌}
use Rattle.std.proofs.lemmas.Int.{ints}
use Rattle.std.proofs.lemmas.List.{take_all}
use Rattle.std.proofs.lemmas.Option.{slice_get-get_or, slice_get_within}
use Rattle.ih_tables.specs.Bills.{feasible, cost}
use Rattle.ih_plan.specs.BillOf.{bill_of}
use Rattle.ih_plan.specs.Timetable.{Timetable}
use Rattle.ih_journal.specs.Tried.{Tried, tries}
use Rattle.ih_journal.specs.Base.{Base}
use Rattle.ih_journal.specs.Best.{BestIs, IsBest, IsFeasibleAt, best_with, cost_at}
use Rattle.ih_journal.specs.History.{plan_after, plan_at, after_entries}
use Rattle.ih_journal.proofs.BestLemmas.{best-start, best-more}
use Rattle.ih_cellbook.proofs.EntryLimits.{take-one}
use Rattle.ih_rounds.specs.Best.{cost_in}
use Rattle.ih_rounds.specs.Laws.{IsNoDearer}
use Rattle.ih_rounds.specs.Rounds.{AreRounds, Round, StartsFrom, base_in, next_start}

-- Each history has a best, or none of its timetables is feasible.
best-exists-upto : (b : Base) (H : List Tried) (n : ℕ) → (o : Option (ℕ × ℤ)) × BestIs b (take n H) o
best-exists-upto b H zero =
    (best_with None 0 (feasible (bill_of b.instance (plan_after b []))) (cost b.instance.weights (bill_of b.instance (plan_after b []))), best-start b _ _ refl refl)
best-exists-upto b H (suc n) =
    let before = best-exists-upto b H n in
    elim (take-one H n) [
      | inl more ↦
          let e = more.0 in
          let G = take n H ++ e ∷ [] in (
            best_with before.0 (length (take n H) + 1) (feasible (bill_of b.instance (plan_after b G))) (cost b.instance.weights (bill_of b.instance (plan_after b G))),
            rw more.1.1 (best-more b (take n H) e _ _ refl refl before.0 before.1),
          )
      | inr same ↦ (before.0, rw same before.1)
    ]

pub best-exists : (b : Base) (H : List Tried) → (o : Option (ℕ × ℤ)) × BestIs b H o
best-exists b H =
    let whole = best-exists-upto b H (length H) in
    (whole.0, subst (λ G. BestIs b G whole.0) (take_all (length H) H (omega arith)) whole.1)

-- the first timetable of a history is its start
pub plan-first : (b : Base) (H : List Tried) → plan_at b H 0 ≡ b.start
unfolding after_entries
plan-first b H = refl

-- A history over a feasible timetable has a best, which costs no more than that.
over-feasible : (b : Base) (H : List Tried) → feasible (bill_of b.instance b.start) ≡ true
    → (j : ℕ) × IsBest b H j × (cost_at b H j ≤ℤ cost b.instance.weights (bill_of b.instance b.start))
over-feasible b H works =
    let first = plan-first b H in
    let works-first : IsFeasibleAt b H 0 = ap (λ P. feasible (bill_of b.instance P)) first ∙ works in
    by_case (best-exists b H).0 (best-exists b H).1 works-first
  where
    costs-first : cost_at b H 0 ≡ cost b.instance.weights (bill_of b.instance b.start)
    costs-first = ap (λ P. cost b.instance.weights (bill_of b.instance P)) (plan-first b H)

    by_case : (o : Option (ℕ × ℤ)) → BestIs b H o → IsFeasibleAt b H 0 → (j : ℕ) × IsBest b H j × (cost_at b H j ≤ℤ cost b.instance.weights (bill_of b.instance b.start))
    by_case None none works-first = absurd (let no : false ≡ true = sym (none 0 (omega arith)) ∙ works-first in cc)
    by_case (Some best) is works-first = (best.0, is.0, subst (λ c. cost_at b H best.0 ≤ℤ c) costs-first (is.0.cheapest 0 (omega arith) works-first))

-- that of the next round
no-dearer : (b : Base) (rs : List Round) → AreRounds b rs → (q k : ℕ) (r s : Round) → slice_get rs q ≡ Some r → slice_get rs (q + 1) ≡ Some s
    → IsBest (base_in b q r) (tries r.history) k → IsNoDearer b (q + 1) s q r k
no-dearer b rs legal q k r s here next best = goes (legal (q + 1) s next).start
  where
    one : q + 1 ≡ suc q
    one = omega arith

    -- the next round started where this one was cheapest
    from_best : (t : Round) (found : Option (ℕ × ℤ)) → slice_get rs q ≡ Some t → BestIs (base_in b q t) (tries t.history) found → s.start ≡ next_start (base_in b q t) (tries t.history) found
        → (P : Timetable) × (s.start ≡ P) × (feasible (bill_of b.instance P) ≡ true) × (cost b.instance.weights (bill_of b.instance P) ≤ℤ cost_in b q r k)
    from_best t found there is starts =
        let same : t ≡ r = (let both : Some t ≡ Some r = sym there ∙ here in cc) in
        by_found found (subst (λ u. BestIs (base_in b q u) (tries u.history) found) same is) (subst (λ u. s.start ≡ next_start (base_in b q u) (tries u.history) found) same starts)
      where
        by_found : (found : Option (ℕ × ℤ)) → BestIs (base_in b q r) (tries r.history) found → s.start ≡ next_start (base_in b q r) (tries r.history) found
            → (P : Timetable) × (s.start ≡ P) × (feasible (bill_of b.instance P) ≡ true) × (cost b.instance.weights (bill_of b.instance P) ≤ℤ cost_in b q r k)
        by_found None none starts = absurd (let no : false ≡ true = sym (none k best.place) ∙ best.works in cc)
        by_found (Some own) is starts = (plan_at (base_in b q r) (tries r.history) own.0, starts, is.0.works, is.0.cheapest k best.place best.works)

    goes : StartsFrom b rs (q + 1) s.start → IsNoDearer b (q + 1) s q r k
    goes starts =
        let at-next : StartsFrom b rs (suc q) s.start = subst (λ n. StartsFrom b rs n s.start) one starts in
        let from = from_best at-next.0 at-next.1 at-next.2 at-next.3 at-next.4 in
        let works : feasible (bill_of b.instance s.start) ≡ true = ap (λ P. feasible (bill_of b.instance P)) from.1 ∙ from.2 in
        let costs : cost b.instance.weights (bill_of b.instance s.start) ≡ cost b.instance.weights (bill_of b.instance from.0) = ap (λ P. cost b.instance.weights (bill_of b.instance P)) from.1 in
        let found = over-feasible (base_in b (q + 1) s) (tries s.history) works in
        let low = found.2 in
        let high = from.3 in
        record { place = found.0; best = found.1; cost = omega (arith, ints, low, high, costs) }

-- that of the round which comes so many after the next
no-dearer-after : (b : Base) (rs : List Round) → AreRounds b rs → (n p k : ℕ) (r s : Round) → slice_get rs p ≡ Some r → slice_get rs (p + suc n) ≡ Some s
    → IsBest (base_in b p r) (tries r.history) k → IsNoDearer b (p + suc n) s p r k
no-dearer-after b rs legal zero p k r s here there best = no-dearer b rs legal p k r s here there best
no-dearer-after b rs legal (suc n) p k r s here there best =
    let inside = slice_get_within rs (p + suc (suc n)) s there in
    let t : Round = get_or rs (p + 1) r in
    let next : slice_get rs (p + 1) ≡ Some t = slice_get-get_or rs (p + 1) r (omega arith) in
    let own = no-dearer b rs legal p k r t here next best in
    let same : p + suc (suc n) ≡ p + 1 + suc n = omega arith in
    let rest = no-dearer-after b rs legal n (p + 1) own.place t s next (subst (λ i. slice_get rs i ≡ Some s) same there) own.best in
    let low = rest.cost in
    let high = own.cost in
    record {
      place = rest.place;
      best = subst (λ i. IsBest (base_in b i s) (tries s.history) rest.place) (sym same) rest.best;
      cost = omega (arith, ints, low, high);
    }

pub later-no-dearer : (b : Base) (rs : List Round) → AreRounds b rs → (p q k : ℕ) (r s : Round) → slice_get rs p ≡ Some r → slice_get rs q ≡ Some s
    → p < q → IsBest (base_in b p r) (tries r.history) k → IsNoDearer b q s p r k
later-no-dearer b rs legal p q k r s here there less best =
    let n : ℕ = q - (p + 1) in
    let same : q ≡ p + suc n = omega arith in
    subst (λ i. IsNoDearer b i s p r k) (sym same)
    (no-dearer-after b rs legal n p k r s here (subst (λ i. slice_get rs i ≡ Some s) same there) best)
