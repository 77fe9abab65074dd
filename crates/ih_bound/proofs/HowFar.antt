-- How far a timetable is from the best.
use Rattle.std.proofs.Common.{ℕ, ◌+◌, ◌-◌, ◌*◌, ◌≤◌, arith}
use Rattle.std.specs.Prelude.{ℤ, pos, negsuc, ◌*ℤ◌, ◌≤ℤ◌, unsigned_abs}
use Rattle.std.specs.Int.{div_ceil}
use Rattle.std.proofs.lemmas.Int.{ints}
use Rattle.std.proofs.lemmas.Grind.{div_ceil_times}
use Rattle.std.proofs.lemmas.Nat.{mul-le}
use Rattle.std.proofs.Math.IntN.{pos-*ℤ-pos}
use Rattle.ih_tables.specs.declared.drafts.Draft.{Draft}
use Rattle.ih_plan.specs.Timetable.{Timetable, IsPlanOf}
use Rattle.ih_bound.specs.Bounds.{HoldsOfAll}
use Rattle.ih_bound.specs.declared.outcomes.Outcome.{Outcome}
use Rattle.ih_bound.specs.declared.outcomes.Outcome.TheVariants.{Infeasible, AtLeast}
use Rattle.ih_bound.specs.Texts.{above}
use Rattle.ih_bound.specs.Judging.{HasGap, cost_of}

share-above : (x y least n : ℕ) → least ≤ x → least ≤ y → (x - least) * 1000 ≤ n * least → 1000 * x ≤ (1000 + n) * y
share-above x y least n hx hy share =
    let more = mul-le (1000 + n) least (1000 + n) y (omega arith) hy in
    omega (arith, more, share)

pos-products : (a x b y : ℕ) → a * x ≤ b * y → (pos a *ℤ pos x) ≤ℤ (pos b *ℤ pos y)
pos-products a x b y h =
    let left = pos-*ℤ-pos a x in
    let right = pos-*ℤ-pos b y in
    omega (arith, ints, left, right, h)

share-true : (x y : ℤ) (least : ℕ) → 1 ≤ least → pos least ≤ℤ x → pos least ≤ℤ y → (pos 1000 *ℤ x) ≤ℤ (pos (1000 + above (unsigned_abs x) least) *ℤ y)
share-true (pos x) (pos y) least some hx hy =
    let share = (div_ceil_times ((x - least) * 1000) least some).0 in
    let ℓx : least ≤ x = omega (arith, ints, hx) in
    let ℓy : least ≤ y = omega (arith, ints, hy) in
    let n : ℕ = div_ceil ((x - least) * 1000) least in
    let all : 1000 * x ≤ (1000 + n) * y = share-above x y least n ℓx ℓy share in
    pos-products 1000 x (1000 + n) y all
share-true (negsuc x) y least some hx hy = absurd (omega (arith, ints, hx))
share-true (pos x) (negsuc y) least some hx hy = absurd (omega (arith, ints, hy))

pub gap-true : (I : Draft) (P : Timetable) (outcome : Outcome) → IsPlanOf I P → HoldsOfAll I outcome → HasGap I P outcome
gap-true I P Infeasible plan holds = tt
gap-true I P (AtLeast b) plan holds = λ whole some Q feasible.
    share-true (cost_of I P) (cost_of I Q) b.value some (holds P (record { plan = plan; rules = whole })) (holds Q feasible)
