-- Which worker looks at which person, and what it finds.
use Rattle.std.specs.Prelude.{ℕ, ◌%◌, ◌≤◌, ◌==◌, if◌then◌else◌}
use Rattle.ih_tables.specs.declared.drafts.Draft.{Draft}
use Rattle.ih_tables.specs.Sizes.{person_count}
use Rattle.ih_plan.specs.Timetable.{Timetable}
use Rattle.ih_plan.specs.Sums.{sum_below}
use Rattle.ih_bound.specs.declared.prices.Rates.{Rates}
use Rattle.ih_bound.specs.declared.dealing.BoundWorker.{BoundWorker}
use Rattle.ih_bound.specs.Bounds.{IsFeasible}
use Rattle.ih_bound.specs.Tariffs.{Tariff}
use Rattle.ih_bound.specs.Paid.{paid}
use Rattle.ih_bound.specs.Least.{AreFloors}

-- the worker's floors hold whatever the prices
abbrev pub HasFloors : Draft → Rates → BoundWorker → Type 0
HasFloors I rates w = AreFloors I rates w.floors.list.items

-- what person x pays where it is dealt to worker w of n, and else 0
abbrev pub dealt_paid : Draft → Rates → Tariff → Timetable → ℕ → ℕ → ℕ → ℕ
dealt_paid I rates t P n w x = if x % n == w then paid I rates t P x else 0

-- all persons who are dealt to worker w of n pay at least so much
abbrev pub BoundsDealt : Draft → Rates → Tariff → ℕ → ℕ → ℕ → Type 0
BoundsDealt I rates t n w least =
    (P : Timetable) → IsFeasible I P → least ≤ sum_below (person_count I) (dealt_paid I rates t P n w)
