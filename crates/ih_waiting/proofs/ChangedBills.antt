-- What a change says of the bill after it.
use Rattle.std.proofs.Common.{◌≡◌, ℕ, zero, suc, ◌<◌, refl, ◌∙◌, ap, arith, inl, inr}
use Rattle.std.specs.Prelude.{ℤ, pos, negsuc, ◌+ℤ◌, ◌-ℤ◌, ◌*ℤ◌, ◌≤ℤ◌}
use Rattle.std.proofs.lemmas.Bool.{cases_lt}
use Rattle.std.proofs.lemmas.Int.{ints}
use Rattle.std.proofs.Math.IntN.{zero-*ℤ}
use Rattle.ih_tables.specs.declared.bills.Bill.{Bill}
use Rattle.ih_tables.specs.declared.bills.Weights.{Weights}
use Rattle.ih_tables.specs.declared.drafts.Draft.{Draft}
use Rattle.ih_tables.specs.Bills.{at, cost, score, signed_sum, sub_bills}
use Rattle.ih_tables.proofs.BillLemmas.{at-listed}
use Rattle.ih_plan.specs.declared.moves.Placement.{Placement}
use Rattle.ih_plan.specs.BillOf.{bill_of}
use Rattle.ih_plan.specs.Sums.{sum_below}
use Rattle.ih_plan.specs.Timetable.{Timetable}
use Rattle.ih_plan.specs.Writes.{put}
use Rattle.ih_fill.proofs.ScoreLemmas.{AreBalanced, scores-even}
use Rattle.ih_waiting.specs.Admissions.{admit, broken_more, change_by, rise}

-- ---- rules

-- a sum of 0 has no term but 0
no-term : (n k : ℕ) (f : ℕ → ℕ) → sum_below n f ≡ 0 → k < n → f k ≡ 0
unfolding sum_below
no-term zero k f e h = absurd (omega arith)
no-term (suc n) k f e h = elim (cases_lt k n) [
  | inl below ↦ no-term n k f (omega arith) below
  | inr above ↦ let same : k ≡ n = omega arith in rw same (omega arith)
]

rise-none : (x : ℤ) → rise x ≡ 0 → x ≤ℤ pos 0
rise-none (pos n) e = omega (arith, ints)
rise-none (negsuc n) e = omega (arith, ints)

not-above : (x y z : ℤ) → z ≡ x -ℤ y → z ≤ℤ pos 0 → x ≤ℤ y
not-above x y z e h = omega (arith, ints)

pub rules-kept : (I : Draft) (P : Timetable) (p : ℕ) (place : Placement) → broken_more (change_by I P p place) ≡ 0
    → (k : ℕ) → k < 9 → at (bill_of I (put (admit p place) P)).v k ≤ℤ at (bill_of I P).v k
unfolding broken_more change_by
rules-kept I P p place none k below =
    let new = bill_of I (put (admit p place) P) in
    let old = bill_of I P in
    not-above (at new.v k) (at old.v k) (at (sub_bills new old).v k) (at-listed 9 (λ j. at new.v j -ℤ at old.v j) k below)
    (rise-none (at (sub_bills new old).v k) (no-term 9 k (λ j. rise (at (sub_bills new old).v j)) none below))

-- ---- the cost

even-at : (x y z u : ℤ) → z ≡ y -ℤ y → u ≡ x -ℤ y → x +ℤ z ≡ y +ℤ u
even-at x y z u e f = omega (arith, ints)

balanced : (new old : Bill) → AreBalanced new (sub_bills old old) old (sub_bills new old)
balanced new old = record {
  v = λ k below. even-at (at new.v k) (at old.v k) (at (sub_bills old old).v k) (at (sub_bills new old).v k)
      (at-listed 9 (λ j. at old.v j -ℤ at old.v j) k below) (at-listed 9 (λ j. at new.v j -ℤ at old.v j) k below);
  s = λ k below. even-at (at new.s k) (at old.s k) (at (sub_bills old old).s k) (at (sub_bills new old).s k)
      (at-listed 8 (λ j. at old.s j -ℤ at old.s j) k below) (at-listed 8 (λ j. at new.s j -ℤ at old.s j) k below);
}

all-none : (n : ℕ) (f : ℕ → ℤ) → ((k : ℕ) → k < n → f k ≡ pos 0) → signed_sum n f ≡ pos 0
unfolding signed_sum
all-none zero f e = refl
all-none (suc n) f e =
    let rest = all-none n f (λ k below. e k (omega arith)) in
    let last = e n (omega arith) in
    omega (arith, ints)

itself : (x : ℤ) → x -ℤ x ≡ pos 0
itself x = omega (arith, ints)

no-cost : (w : Weights) (b : Bill) → cost w (sub_bills b b) ≡ pos 0
no-cost w b = all-none 8 (λ k. at (sub_bills b b).s k *ℤ at w.w k)
    (λ k below. ap (λ x. x *ℤ at w.w k) (at-listed 8 (λ j. at b.s j -ℤ at b.s j) k below ∙ itself (at b.s k)) ∙ zero-*ℤ (at w.w k))

without-rules : (x y : ℤ) → (pos 0 *ℤ x) +ℤ y ≡ y
without-rules x y = rw (zero-*ℤ x) (omega (arith, ints))

even-four : (a b c d x y z u : ℤ) → a ≡ x → b ≡ y → c ≡ z → d ≡ u → a +ℤ b ≡ c +ℤ d → y ≡ pos 0 → x ≡ z +ℤ u
even-four a b c d x y z u e f g h even none = omega (arith, ints)

pub cost-more : (w : Weights) (new old : Bill) → cost w new ≡ cost w old +ℤ cost w (sub_bills new old)
cost-more w new old =
    even-four (score 0 w new) (score 0 w (sub_bills old old)) (score 0 w old) (score 0 w (sub_bills new old))
    (cost w new) (cost w (sub_bills old old)) (cost w old) (cost w (sub_bills new old))
    (without-rules (signed_sum 9 (at new.v)) (cost w new))
    (without-rules (signed_sum 9 (at (sub_bills old old).v)) (cost w (sub_bills old old)))
    (without-rules (signed_sum 9 (at old.v)) (cost w old))
    (without-rules (signed_sum 9 (at (sub_bills new old).v)) (cost w (sub_bills new old)))
    (scores-even 0 w new (sub_bills old old) old (sub_bills new old) (balanced new old))
    (no-cost w old)

pub cost-after : (I : Draft) (P : Timetable) (p : ℕ) (place : Placement)
    → cost I.weights (bill_of I (put (admit p place) P)) ≡ cost I.weights (bill_of I P) +ℤ cost I.weights (change_by I P p place)
unfolding change_by
cost-after I P p place = cost-more I.weights (bill_of I (put (admit p place) P)) (bill_of I P)
