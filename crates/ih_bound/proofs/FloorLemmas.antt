-- What a person pays for care at no price is at most what it pays at any.
use Rattle.std.proofs.Common.{◌≡◌, ℕ, ◌+◌, ◌-◌, ◌*◌, ◌/◌, ◌%◌, ◌≤◌, ◌<◌, inl, inr, length, set, refl, sym, subst, arith, List, [], Option, Some, None}
use Rattle.std.specs.Prelude.{min, slice_index}
use Rattle.ih_tables.specs.declared.drafts.Draft.{Draft}
use Rattle.ih_tables.specs.Sizes.{shift_count}
use Rattle.ih_plan.specs.Timetable.{Timetable}
use Rattle.ih_plan.specs.Presence.{skill_of, workload_of}
use Rattle.ih_plan.proofs.SumBounds.{sum_below-le_each}
use Rattle.ih_validate.specs.Members.{carer_of}
use Rattle.ih_bound.specs.declared.prices.Rates.{Rates}
use Rattle.ih_bound.specs.declared.prices.Prices.{Prices}
use Rattle.ih_bound.specs.Tariffs.{Tariff, tariff_of}
use Rattle.ih_bound.specs.Paid.{care_price_of, shift_paid, care_paid}
use Rattle.ih_bound.proofs.PutLemmas.{put-each}
use Rattle.ih_bound.specs.Least.{AreFloors, BoundsCareFrom, BoundsFloor}

-- lists that have nothing have no price of workload
free-work : (I : Draft) (rates : Rates) (free : Prices) → free.work.items ≡ [] → (n k : ℕ) → (tariff_of I rates free).work n k ≡ 0
free-work I rates free e n k =
    let none : min (slice_index free.work.items (shift_count I * n + k)) rates.load ≡ min 0 rates.load = rw e refl in
    omega (arith, none)

module _ (I : Draft) (rates : Rates) (cheap t : Tariff) (free : (n k : ℕ) → cheap.work n k ≡ 0) where
  cheaper-price : (skill load k : ℕ) (o : Option ℕ) → care_price_of I rates cheap skill load k o ≤ care_price_of I rates t skill load k o
  cheaper-price skill load k None = omega arith
  cheaper-price skill load k (Some n) = rw (free n k) (omega arith)

  pub cheaper-care : (P : Timetable) (x : ℕ) → care_paid I rates cheap P x ≤ care_paid I rates t P x
  unfolding care_paid
  cheaper-care P x =
      let each = sum_below-le_each (shift_count I) (shift_paid I rates cheap P x) (shift_paid I rates t P x)
      (λ k l. cheaper-price (skill_of I P k x) (workload_of I P k x) k (carer_of I P k x)) in
      omega (arith, each)

-- what bounds care at no price bounds it at any
pub floor-free : (I : Draft) (rates : Rates) (free : Prices) (p a least : ℕ) → free.work.items ≡ []
    → BoundsCareFrom I rates (tariff_of I rates free) p a least → BoundsFloor I rates p a least
floor-free I rates free p a least e bounds = λ t P at feasible is on.
    let cheap = cheaper-care I rates (tariff_of I rates free) t (free-work I rates free e) P p in
    omega (arith, cheap, bounds P at feasible is on)

-- floors are floors still where one is put in place of another
pub floors-put : (I : Draft) (rates : Rates) (floors : List ℕ) (i least : ℕ) → AreFloors I rates floors → BoundsFloor I rates (i / I.days) (i % I.days) least
    → i < length floors → AreFloors I rates (set floors i least)
floors-put I rates floors i least are here inside = λ j. elim (put-each floors i least j inside) [
  | inl same ↦ subst (BoundsFloor I rates (j / I.days) (j % I.days)) (sym same) (are j)
  | inr there ↦ subst (BoundsFloor I rates (j / I.days) (j % I.days)) (sym there.1) (subst (λ k. BoundsFloor I rates (k / I.days) (k % I.days) least) (sym there.0) here)
]
