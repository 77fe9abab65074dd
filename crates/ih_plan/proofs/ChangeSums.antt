-- Differences of bills, number by number, one behind another.
use Rattle.std.proofs.Common.{◌≡◌, ℕ, ◌<◌, refl, arith, sym, true, List, [], ◌∷◌, map}
use Rattle.std.specs.Prelude.{pos, ℤ, ◌+ℤ◌, ◌-ℤ◌}
use Rattle.std.specs.List.{range_with_len}
use Rattle.std.proofs.lemmas.Bool.{eq-eqb, or_left, or_right}
use Rattle.std.proofs.lemmas.Int.{ints}
use Rattle.ih_tables.specs.declared.drafts.Draft.{Draft}
use Rattle.ih_tables.specs.declared.bills.Bill.{Bill}
use Rattle.ih_tables.specs.Bills.{at, add_bills, sub_bills, zero_bill}
use Rattle.ih_tables.specs.Listed.{listed}
use Rattle.ih_tables.proofs.BillLemmas.{at-listed}
use Rattle.ih_plan.specs.Timetable.{Timetable}
use Rattle.ih_plan.specs.BillOf.{bill_of, change_of_bill}
use Rattle.ih_plan.proofs.ListedBelow.{has}
use Rattle.ih_plan.proofs.PlanRanges.{has-range}

-- ---- one number

pub map-same : {A : Type 0} (f g : ℕ → A) (xs : List ℕ) → ((i : ℕ) → has i xs ≡ true → f i ≡ g i) → map f xs ≡ map g xs
map-same f g [] e = refl
map-same f g (x ∷ xs) e =
    let first : f x ≡ g x = e x (or_left _ (has x xs) (eq-eqb x x refl)) in
    let rest = map-same f g xs (λ i h. e i (or_right _ (has i xs) h)) in
    cc

-- two lists, place by place
pub places-by : (m : ℕ) (op : ℤ → ℤ → ℤ) (f g h : ℕ → ℤ) → ((k : ℕ) → op (f k) (g k) ≡ h k)
    → listed m (λ k. op (at (listed m f) k) (at (listed m g) k)) ≡ listed m h
places-by m op f g h e =
    map-same (λ k. op (at (listed m f) k) (at (listed m g) k)) h (range_with_len 0 m)
    (λ k listed. let range = has-range 0 m k listed in
    let inside : k < m = omega arith in
    rw (at-listed m f k inside, at-listed m g k inside) (e k))

-- ---- one change behind another

then-less : (a b c : ℤ) → (b -ℤ a) +ℤ (c -ℤ b) ≡ c -ℤ a
then-less a b c = omega (arith, ints)

places-then-less : (m : ℕ) (a b c : ℕ → ℤ)
    → listed m (λ k. at (listed m (λ k. b k -ℤ a k)) k +ℤ at (listed m (λ k. c k -ℤ b k)) k)
    ≡ listed m (λ k. c k -ℤ a k)
places-then-less m a b c =
    places-by m (λ x y. x +ℤ y) (λ k. b k -ℤ a k) (λ k. c k -ℤ b k) (λ k. c k -ℤ a k) (λ k. then-less (a k) (b k) (c k))

pub change-then : (I : Draft) (P Q R : Timetable)
    → add_bills (change_of_bill I P Q) (change_of_bill I Q R) ≡ change_of_bill I P R
change-then I P Q R =
    let a = bill_of I P in
    let b = bill_of I Q in
    let c = bill_of I R in
    let v = places-then-less 9 (λ k. at a.v k) (λ k. at b.v k) (λ k. at c.v k) in
    let s = places-then-less 8 (λ k. at a.s k) (λ k. at b.s k) (λ k. at c.s k) in
    cc

-- ---- no change

nothing-more : (x : ℤ) → x -ℤ x ≡ pos 0
nothing-more x = omega (arith, ints)

pub less-itself : (b : Bill) → sub_bills b b ≡ zero_bill
less-itself b =
    let v = map-same (λ k. at b.v k -ℤ at b.v k) (λ k. pos 0) (range_with_len 0 9) (λ k h. nothing-more (at b.v k)) in
    let s = map-same (λ k. at b.s k -ℤ at b.s k) (λ k. pos 0) (range_with_len 0 8) (λ k h. nothing-more (at b.s k)) in
    rw (v, s) refl

pub change-same : (I : Draft) (P : Timetable) → zero_bill ≡ change_of_bill I P P
change-same I P = sym (less-itself (bill_of I P))
