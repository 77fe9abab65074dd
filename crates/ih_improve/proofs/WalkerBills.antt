-- A worker on its way: one attempt more.
use Rattle.std.proofs.Common.{◌≡◌, ◌^◌, refl, ◌∙◌, inl, inr, Bool, true, false, List}
use Rattle.std.specs.Prelude.{◌⊎◌, if◌then◌else◌}
use Rattle.ih_tables.specs.declared.bills.Bill.{Bill}
use Rattle.ih_tables.specs.declared.drafts.Draft.{Draft}
use Rattle.ih_tables.specs.Bills.{IsWithin, add_bills}
use Rattle.ih_tables.specs.Valid.{IsValid}
use Rattle.ih_plan.specs.declared.moves.Move.{Move}
use Rattle.ih_plan.specs.Series.{AreMoves, after_all, price_of_all}
use Rattle.ih_plan.specs.Timetable.{Timetable, IsPlanOf}
use Rattle.ih_plan.proofs.Series.{after_all-plan}
use Rattle.ih_plan.specs.BillOf.{bill_of, change_of_bill}
use Rattle.ih_plan.proofs.BillBounds.{bill-within, change-within}
use Rattle.ih_plan.proofs.BillSums.{add-change, sum-within}
use Rattle.ih_costs.specs.LedgersState.{LedgersState}
use Rattle.ih_improve.specs.WalkerState.{AreBills, best_at, left_best_with}

-- the bill after a change whose price is known
pub bill-small : (I : Draft) (P Q : Timetable) (now price : Bill) → IsValid I → IsPlanOf I P → IsPlanOf I Q → now ≡ bill_of I P → price ≡ change_of_bill I P Q
    → IsWithin (10 ^ 12) (add_bills now price)
bill-small I P Q now price valid p q is priced =
    rw (is, priced) (sum-within (bill_of I P) (change_of_bill I P Q) (bill-within I P valid p) (change-within I P Q valid p q))

pub bill-after : (I : Draft) (P Q : Timetable) (now price next : Bill) → now ≡ bill_of I P → price ≡ change_of_bill I P Q → next ≡ add_bills now price → next ≡ bill_of I Q
bill-after I P Q now price next is priced sum = sum ∙ rw (is, priced) (add-change I P Q)

pub best-fits : (I : Draft) (here : Bool) (now left_best : Timetable) → IsPlanOf I now → IsPlanOf I left_best → IsPlanOf I (best_at here now left_best)
best-fits I true now left_best p q = p
best-fits I false now left_best p q = q

pub best-within : (I : Draft) (l : LedgersState) (left_best : Timetable) (here : Bool) (bill best : Bill) → IsValid I → AreBills I l left_best here bill best → IsWithin (10 ^ 11) best
best-within I l left_best here bill best valid are =
    rw are.best_is (bill-within I (best_at here l.plan left_best) valid (best-fits I here l.plan left_best are.now are.left_best_fits))

pub now-within : (I : Draft) (l : LedgersState) (left_best : Timetable) (here : Bool) (bill best : Bill) → IsValid I → AreBills I l left_best here bill best → IsWithin (10 ^ 11) bill
now-within I l left_best here bill best valid are = rw are.bill_is (bill-within I l.plan valid are.now)

-- moves in a row with a price, made where the ledgers stand
module _ (I : Draft) (valid : IsValid I) (l : LedgersState) (left_best : Timetable) (here : Bool) (bill best : Bill) (are : AreBills I l left_best here bill best)
    (ms : List Move) (inside : AreMoves I ms) (price : Bill) (priced : price ≡ price_of_all I l.plan ms) where
  next-plan : IsPlanOf I (after_all I l.plan ms)
  next-plan = after_all-plan I l.plan ms are.now inside

  pub sum-small : IsWithin (10 ^ 12) (add_bills bill price)
  sum-small = bill-small I l.plan (after_all I l.plan ms) bill price valid are.now next-plan are.bill_is priced

  module _ (next : Bill) (sum : next ≡ add_bills bill price) where
    next-is : next ≡ bill_of I (after_all I l.plan ms)
    next-is = bill-after I l.plan (after_all I l.plan ms) bill price next are.bill_is priced sum

    pub next-within : IsWithin (10 ^ 11) next
    next-within = rw next-is (bill-within I (after_all I l.plan ms) valid next-plan)

    module _ (better : Bool) where
      pub best-after : let A = after_all I l.plan ms in
          let next_best = best_at better A (left_best_with here better l.plan left_best) in
          (next_best ≡ best_at here l.plan left_best) ⊎ (next_best ≡ A)
      best-after = by_case here better
        where
          by_case : (s t : Bool) → (best_at t (after_all I l.plan ms) (left_best_with s t l.plan left_best) ≡ best_at s l.plan left_best)
              ⊎ (best_at t (after_all I l.plan ms) (left_best_with s t l.plan left_best) ≡ after_all I l.plan ms)
          by_case true true = inr refl
          by_case false true = inr refl
          by_case true false = inl refl
          by_case false false = inl refl

      pub bills-after : (m : LedgersState) → m ≡ record l { plan = after_all I l.plan ms } → AreBills I m (left_best_with here better l.plan left_best) better next (if better then next else best)
      bills-after m is = rw is (record {
        instance = are.instance;
        now = next-plan;
        left_best_fits = left_best-fits here better;
        bill_is = next-is;
        best_is = best-bill here better are.best_is;
      })
        where
          left_best-fits : (s t : Bool) → IsPlanOf I (left_best_with s t l.plan left_best)
          left_best-fits true true = are.left_best_fits
          left_best-fits true false = are.now
          left_best-fits false t = are.left_best_fits

          best-bill : (s t : Bool) → best ≡ bill_of I (best_at s l.plan left_best)
              → (if t then next else best) ≡ bill_of I (best_at t (after_all I l.plan ms) (left_best_with s t l.plan left_best))
          best-bill s true was = next-is
          best-bill true false was = was
          best-bill false false was = was
