-- What workers find of the persons who are dealt to them, added up, is at most what all persons pay.
use Rattle.std.proofs.Common.{◌≡◌, ℕ, ◌+◌, ◌*◌, ◌%◌, ◌/◌, ◌<◌, ◌≤◌, refl, arith, sym, ap, ◌∙◌, subst, Bool, true, false, List, [], ◌∷◌, length}
use Rattle.std.specs.Prelude.{if◌then◌else◌, ◌==◌, All, slice_index, slice_index_or}
use Rattle.std.proofs.lemmas.Nat.{div-mul-add, mod-mul-add}
use Rattle.ih_tables.specs.declared.drafts.Draft.{Draft}
use Rattle.ih_tables.specs.Sizes.{person_count, shift_count, nurse_count}
use Rattle.ih_plan.specs.Timetable.{Timetable}
use Rattle.ih_plan.specs.Sums.{sum_below}
use Rattle.ih_plan.proofs.SumLemmas.{sum_below-same}
use Rattle.ih_plan.proofs.SumBounds.{sum_below-le_each, sum_below-swap, one_place}
use Rattle.ih_bound.specs.declared.prices.Rates.{Rates}
use Rattle.ih_bound.specs.Bounds.{IsFeasible}
use Rattle.ih_bound.specs.Tariffs.{Tariff}
use Rattle.ih_bound.specs.Paid.{paid}
use Rattle.ih_bound.specs.Least.{AreFloors, BoundsFloor, BoundsCareFrom}
use Rattle.ih_bound.specs.Dealing.{dealt_paid}

-- whoever has whom, all together pay no more than all persons
pub dealt-all : (I : Draft) (rates : Rates) (t : Tariff) (P : Timetable) (n : ℕ)
    → sum_below n (λ w. sum_below (person_count I) (dealt_paid I rates t P n w)) ≤ sum_below (person_count I) (paid I rates t P)
dealt-all I rates t P n =
    let turned = sum_below-swap n (person_count I) (λ w x. dealt_paid I rates t P n w x) in
    let each = sum_below-le_each (person_count I) (λ x. sum_below n (λ w. dealt_paid I rates t P n w x)) (paid I rates t P)
    (λ x l. one_place n (x % n) (paid I rates t P x)) in
    omega (arith, turned, each)

-- the floor of a patient on a day stands at its place
pub floor-at : (I : Draft) (rates : Rates) (floors : List ℕ) (p a : ℕ) → AreFloors I rates floors → a < I.days
    → BoundsFloor I rates p a (slice_index floors (I.days * p + a))
floor-at I rates floors p a are inside =
    let place : p * I.days + a ≡ I.days * p + a = omega arith in
    rw (div-mul-add p I.days a inside, mod-mul-add p I.days a inside, place) at (are (p * I.days + a))
