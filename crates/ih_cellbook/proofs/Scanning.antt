-- The bill and the best, as the entries of a legal history are gone over.
use Rattle.std.proofs.Common.{◌≡◌, ℕ, ◌+◌, ◌<◌, ◌≤◌, ◌^◌, refl, sym, ap, ◌∙◌, subst, arith, Bool, true, false, List, [], ◌∷◌, ◌++◌, length, take, Option, Some, None, ℤ}
use Rattle.std.specs.Prelude.{slice_get, get_or, map, if◌then◌else◌}
use Rattle.std.proofs.lemmas.List.{take_all, length-take-le}
use Rattle.std.proofs.lemmas.Option.{slice_get-get_or, slice_get_within}
use Rattle.ih_tables.specs.declared.drafts.Draft.{Draft}
use Rattle.ih_tables.specs.declared.bills.Bill.{Bill}
use Rattle.ih_tables.specs.Bills.{IsWithin, add_bills, cost, feasible}
use Rattle.ih_tables.specs.Valid.{IsValid}
use Rattle.ih_plan.specs.Timetable.{IsPlanOf}
use Rattle.ih_plan.specs.Series.{after_all}
use Rattle.ih_plan.specs.BillOf.{bill_of}
use Rattle.ih_plan.proofs.BillBounds.{bill-within, change-within}
use Rattle.ih_plan.proofs.Series.{after_all-plan}
use Rattle.ih_journal.specs.Tried.{Tried}
use Rattle.ih_journal.specs.Base.{Base}
use Rattle.ih_journal.specs.Best.{BestIs, best_with}
use Rattle.ih_journal.specs.History.{is_accepted, after_entries, after_entry, plan_at, plan_after}
use Rattle.ih_journal.proofs.BestLemmas.{best-start, best-more}
use Rattle.ih_journal.proofs.Growth.{plan_after-more, plan_at-plan, take-get}
use Rattle.ih_journal.proofs.Mapped.{get-mapped}
use Rattle.ih_cellbook.specs.Legal.{IsHistoryOver}
use Rattle.ih_cellbook.proofs.Committing.{accepted-is, legal_but-moves}
use Rattle.ih_cellbook.proofs.ExactPrices.{prices-exact, take-next}
use Rattle.ih_plan.proofs.BillSums.{add-change, sum-within}

-- the bill after the first k entries, and the best of them
pub record HasCome (b : Base) (H : List Tried) (k : ℕ) (now : Bill) (best : Option (ℕ × ℤ)) : Type 0 where
  pub bill : now ≡ bill_of b.instance (plan_at b H k)
  pub best_is : BestIs b (take k H) best

-- the bill after an entry
abbrev pub bill_next : Tried → Bill → Bill
bill_next e now = if is_accepted e.verdict then add_bills now e.price else now

-- the entry at a place
pub entry-there : {A : Type 0} (f : A → Tried) (es : List A) (k : ℕ) (x : A) → k < length es → x ≡ get_or es k x → slice_get (map f es) k ≡ Some (f x)
entry-there f es k x below is = get-mapped f es k x (slice_get-get_or es k x below ∙ ap (λ y. Some y) (sym is))

plan-next : (b : Base) (H : List Tried) (k : ℕ) (e : Tried) → slice_get H k ≡ Some e
    → plan_at b H (k + 1) ≡ after_entry b.instance (plan_at b H k) e
plan-next b H k e h = ap (plan_after b) (take-next H k e h) ∙ plan_after-more b (take k H) e

module _ (b : Base) (I : Draft) (first : Bill) (H : List Tried) (over : IsHistoryOver b I first H) where
  valid-own : IsValid I → IsValid b.instance
  valid-own valid = rw over.instance valid

  plan-in : (k : ℕ) → IsPlanOf b.instance (plan_at b H k)
  plan-in k = plan_at-plan b H k over.start (legal_but-moves b H over.legal)

  pub first-in : IsValid I → IsWithin (10 ^ 11) first
  first-in valid = rw over.bill (bill-within b.instance b.start (valid-own valid) over.start)

  pub come-none : (best : Option (ℕ × ℤ)) → best ≡ best_with None 0 (feasible first) (cost I.weights first) → HasCome b H 0 first best
  unfolding after_entries
  come-none best is = record {
    bill = over.bill;
    best_is = rw (is, ← over.instance, over.bill) (best-start b _ _ refl refl);
  }

  module _ (k : ℕ) (e : Tried) (here : slice_get H k ≡ Some e) (now : Bill) (best : Option (ℕ × ℤ)) (come : HasCome b H k now best) where
    next-bill : bill_next e now ≡ bill_of b.instance (plan_at b H (k + 1))
    next-bill = by_case (is_accepted e.verdict) refl ∙ ap (bill_of b.instance) (sym (plan-next b H k e here))
      where
        by_case : (t : Bool) → is_accepted e.verdict ≡ t
            → (if t then add_bills now e.price else now) ≡ bill_of b.instance (if t then after_all b.instance (plan_at b H k) e.moves else plan_at b H k)
        by_case true on =
            let price = prices-exact b H over.start over.legal k e here (accepted-is e.verdict on) in
            let next : plan_at b H (k + 1) ≡ after_all b.instance (plan_at b H k) e.moves =
            plan-next b H k e here ∙ ap (λ t. if t then after_all b.instance (plan_at b H k) e.moves else plan_at b H k) on in
            rw (come.bill, price, next) (add-change b.instance (plan_at b H k) (after_all b.instance (plan_at b H k) e.moves))
        by_case false off = come.bill

    pub sum-in : IsValid I → IsWithin (10 ^ 12) (add_bills now e.price)
    sum-in valid =
        let is = over.legal k e here in
        let moves = legal_but-moves b H over.legal in
        let own = plan_at-plan b (take k H) e.seen over.start (λ j f g. moves j f (take-get H k j f g)) in
        sum-within now e.price (rw come.bill (bill-within b.instance (plan_at b H k) (valid-own valid) (plan-in k)))
        (rw is.price (change-within b.instance (plan_at b (take k H) e.seen) (after_all b.instance (plan_at b (take k H) e.seen) e.moves)
        (valid-own valid) own (after_all-plan b.instance (plan_at b (take k H) e.seen) e.moves own is.move)))

    pub next-in : (next : Bill) → IsValid I → next ≡ bill_next e now → IsWithin (10 ^ 11) next
    next-in next valid is = rw (is ∙ next-bill) (bill-within b.instance (plan_at b H (k + 1)) (valid-own valid) (plan-in (k + 1)))

    pub come-more : (next : Bill) (found : Option (ℕ × ℤ)) → next ≡ bill_next e now
        → found ≡ best_with best (k + 1) (feasible next) (cost I.weights next) → HasCome b H (k + 1) next found
    come-more next found is told =
        let whole = is ∙ next-bill in
        let more = take-next H k e here in
        let inside = slice_get_within H k e here in
        let len : length (take k H) ≡ k = length-take-le k H (omega arith) in
        let after-all : Bill = bill_of b.instance (plan_after b (take k H ++ e ∷ [])) in
        record {
          bill = whole;
          best_is = rw (told, ← over.instance, whole, more)
              (subst (λ n. BestIs b (take k H ++ e ∷ []) (best_with best (n + 1) (feasible after-all) (cost b.instance.weights after-all))) len
              (best-more b (take k H) e _ _ refl refl best come.best_is));
        }

  pub come-all : (k : ℕ) (now : Bill) (best : Option (ℕ × ℤ)) → length H ≤ k → HasCome b H k now best → BestIs b H best
  come-all k now best past come = subst (λ G. BestIs b G best) (take_all k H past) come.best_is
