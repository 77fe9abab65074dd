-- Steps of a loop that adds up a delta over days or shifts, from what a ledger tells of each.
use Rattle.std.proofs.Common.{◌≡◌, ℕ, ◌+◌, ◌*◌, ◌^◌, ◌<◌, ◌≤◌, refl, arith, sym, subst, ◌∙◌, w64, FitsSigned, to_z, of_z}
use Rattle.std.specs.Prelude.{ℤ, pos, neg_ℤ, ◌+ℤ◌, ◌-ℤ◌, ◌≤ℤ◌, map}
use Rattle.std.proofs.lemmas.Int.{ints}
use Rattle.ih_tables.specs.Bills.{at, sub_bills}
use Rattle.ih_tables.proofs.BillLemmas.{at-listed}
use Rattle.ih_plan.specs.BillOf.{Counts, as_bill, rule_count, cost_count}
use Rattle.ih_costs.specs.StayDelta.{span_sum}
use Rattle.ih_costs.proofs.ChangeSums.{at-counts}
use Rattle.ih_costs.proofs.SpanSums.{span-none, span-more}

-- a number as it is handed on in 64 bits
abbrev pub handed : ℤ → ℤ
handed z = to_z w64 (of_z w64 z)

-- nothing is added up yet
pub increase-none : (a : ℕ) (f g : ℕ → ℕ) → pos 0 ≡ pos (span_sum a a f) -ℤ pos (span_sum a a g)
increase-none a f g =
    let of_f = span-none a f in
    let of_g = span-none a g in
    omega (arith, ints, of_f, of_g)

-- one more day or shift
pub increase-more : (a b : ℕ) (f g : ℕ → ℕ) (sum step : ℤ) → a ≤ b → sum ≡ pos (span_sum a b f) -ℤ pos (span_sum a b g) → step ≡ pos (f b) -ℤ pos (g b)
    → sum +ℤ step ≡ pos (span_sum a (b + 1) f) -ℤ pos (span_sum a (b + 1) g)
increase-more a b f g sum step h so_far next =
    let of_f = span-more a b f h in
    let of_g = span-more a b g h in
    omega (arith, ints, so_far, next, of_f, of_g)

-- a number of a difference of bills
pub rule-less : (a b : Counts) (k : ℕ) → k < 9 → at (sub_bills (as_bill a) (as_bill b)).v k ≡ pos (rule_count k a) -ℤ pos (rule_count k b)
rule-less a b k h = at-listed 9 (λ k. at (map pos a.v) k -ℤ at (map pos b.v) k) k h ∙ rw (at-counts a.v k, at-counts b.v k) refl

pub cost-less : (a b : Counts) (k : ℕ) → k < 8 → at (sub_bills (as_bill a) (as_bill b)).s k ≡ pos (cost_count k a) -ℤ pos (cost_count k b)
cost-less a b k h = at-listed 8 (λ k. at (map pos a.s) k -ℤ at (map pos b.s) k) k h ∙ rw (at-counts a.s k, at-counts b.s k) refl

-- ---- a number added up over the days or shifts from a to b, each at most 10^11 in magnitude

pub record IsIncreased (a b : ℕ) (f g : ℕ → ℕ) (sum : ℤ) : Type 0 where
  pub told : sum ≡ pos (span_sum a b f) -ℤ pos (span_sum a b g)
  pub low : neg_ℤ (pos (10 ^ 11 * b)) ≤ℤ sum
  pub high : sum ≤ℤ pos (10 ^ 11 * b)

pub increased-none : (a : ℕ) (f g : ℕ → ℕ) → IsIncreased a a f g (pos 0)
increased-none a f g = record { told = increase-none a f g; low = omega (arith, ints); high = omega (arith, ints) }

pub increased-more : (a b : ℕ) (f g : ℕ → ℕ) (sum step : ℤ) → a ≤ b → IsIncreased a b f g sum → step ≡ pos (f b) -ℤ pos (g b)
    → neg_ℤ (pos (10 ^ 11)) ≤ℤ step → step ≤ℤ pos (10 ^ 11) → IsIncreased a (b + 1) f g (sum +ℤ step)
increased-more a b f g sum step h so_far next low high =
    let old_low = so_far.low in
    let old_high = so_far.high in
    record {
      told = increase-more a b f g sum step h so_far.told next;
      low = omega (arith, ints);
      high = omega (arith, ints);
    }

-- at most 10^14 in magnitude
abbrev pub IsNear : ℤ → Type 0
IsNear z = (neg_ℤ (pos (10 ^ 14)) ≤ℤ z) × (z ≤ℤ pos (10 ^ 14))

-- so is the sum with one more
pub increased-fits : (a b : ℕ) (f g : ℕ → ℕ) (sum step : ℤ) → IsIncreased a b f g sum → b ≤ 200 → neg_ℤ (pos (10 ^ 11)) ≤ℤ step → step ≤ℤ pos (10 ^ 11) → IsNear (sum +ℤ step)
increased-fits a b f g sum step so_far few low high =
    let old_low = so_far.low in
    let old_high = so_far.high in
    (omega (arith, ints), omega (arith, ints))

-- the sum with one more, as it is added in 64 bits
added-fits : (s e : ℤ) → IsNear (s +ℤ e) → neg_ℤ (pos (10 ^ 11)) ≤ℤ e → e ≤ℤ pos (10 ^ 11) → FitsSigned w64 (s +ℤ handed e)
added-fits s e near low high =
    let least = near.0 in
    let most = near.1 in
    omega (arith, ints)

added-is : (s e : ℤ) → IsNear (s +ℤ e) → neg_ℤ (pos (10 ^ 11)) ≤ℤ e → e ≤ℤ pos (10 ^ 11) → handed (s +ℤ handed e) ≡ s +ℤ e
added-is s e near low high =
    let least = near.0 in
    let most = near.1 in
    omega (arith, ints)

-- one, as it is handed on in 64 bits
pub passed-is : (e : ℤ) → neg_ℤ (pos (10 ^ 11)) ≤ℤ e → e ≤ℤ pos (10 ^ 11) → handed e ≡ e
passed-is e low high = omega (arith, ints)

module _ (a b : ℕ) (f g : ℕ → ℕ) (sum step : ℤ) (so_far : IsIncreased a b f g sum) (few : b ≤ 200) (near : (neg_ℤ (pos (10 ^ 11)) ≤ℤ step) × (step ≤ℤ pos (10 ^ 11))) where
  pub step-fits : FitsSigned w64 (sum +ℤ handed step)
  step-fits = added-fits sum step (increased-fits a b f g sum step so_far few near.0 near.1) near.0 near.1

  pub step-increased : a ≤ b → step ≡ pos (f b) -ℤ pos (g b) → IsIncreased a (b + 1) f g (handed (sum +ℤ handed step))
  step-increased begun next =
      subst (IsIncreased a (b + 1) f g) (sym (added-is sum step (increased-fits a b f g sum step so_far few near.0 near.1) near.0 near.1))
      (increased-more a b f g sum step begun so_far next near.0 near.1)

-- ---- the same, where each day or shift is told as a number of 32 bits

count-bits : (n : ℕ) → n < 2 ^ 32 → of_z w64 (pos n) ≡ n
count-bits n small = omega (arith, ints)

count-low : (n : ℕ) → neg_ℤ (pos (10 ^ 11)) ≤ℤ pos n
count-low n = omega (arith, ints)

count-high : (n : ℕ) → n < 2 ^ 32 → pos n ≤ℤ pos (10 ^ 11)
count-high n small = omega (arith, ints)

module _ (a b : ℕ) (f g : ℕ → ℕ) (sum : ℤ) (n : ℕ) (so_far : IsIncreased a b f g sum) (few : b ≤ 200) (small : n < 2 ^ 32) where
  pub count-fits : FitsSigned w64 (sum +ℤ to_z w64 n)
  count-fits = subst (λ m. FitsSigned w64 (sum +ℤ to_z w64 m)) (count-bits n small) (step-fits a b f g sum (pos n) so_far few (count-low n, count-high n small))

  pub count-increased : a ≤ b → pos n ≡ pos (f b) -ℤ pos (g b) → IsIncreased a (b + 1) f g (handed (sum +ℤ to_z w64 n))
  count-increased begun next =
      subst (λ m. IsIncreased a (b + 1) f g (handed (sum +ℤ to_z w64 m))) (count-bits n small)
      (step-increased a b f g sum (pos n) so_far few (count-low n, count-high n small) begun next)
