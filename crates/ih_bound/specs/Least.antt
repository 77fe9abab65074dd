-- What a person pays at least, in each feasible timetable.
use Rattle.std.specs.Prelude.{◌≡◌, ◌<◌, ◌≤◌, ℕ, ◌+◌, ◌/◌, ◌%◌, List, Option, Some, if◌then◌else◌, slice_index}
use Rattle.ih_tables.specs.declared.drafts.Draft.{Draft}
use Rattle.ih_plan.specs.declared.moves.Placement.{Placement}
use Rattle.ih_plan.specs.Timetable.{Timetable, stay_of}
use Rattle.ih_plan.specs.Sums.{sum_below}
use Rattle.ih_plan.specs.Presence.{covers}
use Rattle.ih_bound.specs.declared.prices.Rates.{Rates}
use Rattle.ih_bound.specs.Bounds.{IsFeasible}
use Rattle.ih_bound.specs.Tariffs.{Tariff}
use Rattle.ih_bound.specs.Paid.{care_paid, paid}

-- person x pays at least so much
abbrev pub BoundsPerson : Draft → Rates → Tariff → ℕ → ℕ → Type 0
BoundsPerson I rates t x least = (P : Timetable) → IsFeasible I P → least ≤ paid I rates t P x

-- patient p pays at least so much in each feasible timetable that admits the patient on a day that passes
abbrev pub BoundsAdmitted : Draft → Rates → Tariff → ℕ → (ℕ → Type 0) → ℕ → Type 0
BoundsAdmitted I rates t p on least =
    (P : Timetable) (at : Placement) → IsFeasible I P → stay_of P p ≡ Some at → on at.day.0 → least ≤ paid I rates t P p

-- what beds cost for n days from day a on
abbrev pub bed_cost : Draft → Tariff → ℕ → ℕ → ℕ
bed_cost I t a n = sum_below I.days (λ d. if covers a n d then t.bed d else 0)

-- patient p pays so much besides care where it is admitted on day a
abbrev pub BoundsBase : Draft → Rates → Tariff → ℕ → ℕ → ℕ → Type 0
BoundsBase I rates t p a least =
    (P : Timetable) (at : Placement) → IsFeasible I P → stay_of P p ≡ Some at → at.day.0 ≡ a
    → least + care_paid I rates t P p ≤ paid I rates t P p

-- a day before another
abbrev pub IsBefore : ℕ → ℕ → Type 0
IsBefore end d = d < end

-- patient p pays so much for care where it is admitted on day a
abbrev pub BoundsCareFrom : Draft → Rates → Tariff → ℕ → ℕ → ℕ → Type 0
BoundsCareFrom I rates t p a least =
    (P : Timetable) (at : Placement) → IsFeasible I P → stay_of P p ≡ Some at → at.day.0 ≡ a → least ≤ care_paid I rates t P p

-- patient p pays so much for care where it is admitted on day a, whatever the prices
abbrev pub BoundsFloor : Draft → Rates → ℕ → ℕ → ℕ → Type 0
BoundsFloor I rates p a least = (t : Tariff) → BoundsCareFrom I rates t p a least

-- a list by patient and day of such numbers
abbrev pub AreFloors : Draft → Rates → List ℕ → Type 0
AreFloors I rates floors = (i : ℕ) → BoundsFloor I rates (i / I.days) (i % I.days) (slice_index floors i)

-- patient p pays so much where it is admitted on the day that is tried first, if that is before the end
abbrev pub IsTried : Draft → Rates → Tariff → ℕ → ℕ → Option ℕ → ℕ → Type 0
IsTried I rates t p end hint least = (a : ℕ) → hint ≡ Some a → a < end → BoundsAdmitted I rates t p (λ d. d ≡ a) least
