-- Two bills that are summed: how great the numbers get, and a bill with the change from it to another.
use Rattle.std.proofs.Common.{◌≡◌, ◌^◌, refl, arith}
use Rattle.std.specs.Prelude.{ℤ, pos, neg_ℤ, ◌+ℤ◌, ◌-ℤ◌, ◌≤ℤ◌}
use Rattle.std.proofs.lemmas.Int.{ints}
use Rattle.ih_tables.specs.declared.drafts.Draft.{Draft}
use Rattle.ih_tables.specs.declared.bills.Bill.{Bill}
use Rattle.ih_tables.specs.Bills.{at, IsWithin, add_bills}
use Rattle.ih_tables.specs.Listed.{listed}
use Rattle.ih_tables.proofs.BillLemmas.{at-listed}
use Rattle.ih_plan.specs.Timetable.{Timetable}
use Rattle.ih_plan.specs.BillOf.{bill_of, change_of_bill}

sum-in : (x y : ℤ) → (neg_ℤ (pos (10 ^ 11)) ≤ℤ x) × (x ≤ℤ pos (10 ^ 11)) → (neg_ℤ (pos (10 ^ 11)) ≤ℤ y) × (y ≤ℤ pos (10 ^ 11)) → (neg_ℤ (pos (10 ^ 12)) ≤ℤ (x +ℤ y)) × ((x +ℤ y) ≤ℤ pos (10 ^ 12))
sum-in x y hx hy = (omega (arith, ints, hx.0, hy.0), omega (arith, ints, hx.1, hy.1))

pub sum-within : (a b : Bill) → IsWithin (10 ^ 11) a → IsWithin (10 ^ 11) b → IsWithin (10 ^ 12) (add_bills a b)
sum-within a b ha hb = record {
  v = λ k l. rw (at-listed 9 (λ k. at a.v k +ℤ at b.v k) k l) (sum-in (at a.v k) (at b.v k) (ha.v k l) (hb.v k l));
  s = λ k l. rw (at-listed 8 (λ k. at a.s k +ℤ at b.s k) k l) (sum-in (at a.s k) (at b.s k) (ha.s k l) (hb.s k l));
}

back : (x y : ℤ) → x +ℤ (y -ℤ x) ≡ y
back x y = omega (arith, ints)

-- a bill has nine counts and eight costs
whole-bill : (I : Draft) (P : Timetable) → (let b : Bill = record { v = listed 9 (at (bill_of I P).v); s = listed 8 (at (bill_of I P).s) } in b) ≡ bill_of I P
unfolding bill_of
whole-bill I P = refl

-- a bill and the change from it to another make the other
pub add-change : (I : Draft) (P Q : Timetable) → add_bills (bill_of I P) (change_of_bill I P Q) ≡ bill_of I Q
add-change I P Q = simp back (whole-bill I Q)
