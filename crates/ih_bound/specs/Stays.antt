-- Care of a stay, whoever has it, and numbers of its shifts.
use Rattle.std.specs.Prelude.{◌≡◌, ◌<◌, ◌≤◌, ℕ, ◌-◌, ◌*◌, ◌^◌, min, List, Some, is_some, if◌then◌else◌, slice_index}
use Rattle.ih_tables.specs.declared.drafts.Draft.{Draft}
use Rattle.ih_tables.specs.Sizes.{person_count, nurse_count, shift_count}
use Rattle.ih_tables.specs.Works.{max_load}
use Rattle.ih_plan.specs.Timetable.{Timetable}
use Rattle.ih_plan.specs.Sums.{sum_below}
use Rattle.ih_plan.specs.Persons.{person_of}
use Rattle.ih_plan.specs.Presence.{admission_of, end_from, in_span}
use Rattle.ih_bound.specs.declared.prices.Rates.{Rates}
use Rattle.ih_bound.specs.Bounds.{IsFeasible}
use Rattle.ih_bound.specs.Tariffs.{Tariff}
use Rattle.ih_bound.specs.Paid.{care_price, care_paid}

-- What a stay asks for: skill and workload by shift, from its first shift on and before its last.
pub record Asked : Type 0 where
  pub skill : List ℕ
  pub load : List ℕ
  pub first : ℕ
  pub last : ℕ

abbrev pub asked : List ℕ → List ℕ → ℕ → ℕ → Asked
asked skill load first last = record { skill = skill; load = load; first = first; last = last }

-- It is what person x asks for, admitted on day a.
pub record IsAskedBy (I : Draft) (x a : ℕ) (s : Asked) : Type 0 where
  pub person : x < person_count I
  pub skill : s.skill ≡ (person_of I x).skill
  pub load : s.load ≡ (person_of I x).workload
  pub first : s.first ≡ 3 * a
  pub last : s.last ≡ 3 * end_from I a (person_of I x).length_of_stay

-- the number of shift k, and 0 outside the stay
abbrev pub number_at : List ℕ → Asked → ℕ → ℕ
number_at numbers s k = if in_span s.first s.last k then min (slice_index numbers k) (2 ^ 50) else 0

-- by how much it is above what care by nurse n costs in a shift that the nurse works
abbrev pub spared_in : Draft → Rates → Tariff → Asked → List ℕ → ℕ → ℕ → ℕ
spared_in I rates t s numbers n k =
    if is_some (max_load I n k)
    then number_at numbers s k - care_price I rates t (slice_index s.skill (k - s.first)) (slice_index s.load (k - s.first)) k n
    else 0

-- no nurse is spared more than a nurse is worth
abbrev pub SparesFew : Draft → Rates → Tariff → Asked → List ℕ → Type 0
SparesFew I rates t s numbers =
    (n : ℕ) → n < nurse_count I → sum_below (shift_count I) (spared_in I rates t s numbers n) ≤ rates.nurse

-- whoever has the stay pays at least so much for care
abbrev pub BoundsCare : Draft → Rates → Tariff → Asked → ℕ → Type 0
BoundsCare I rates t s least =
    (P : Timetable) (x a r : ℕ) → IsFeasible I P → IsAskedBy I x a s → admission_of I P x ≡ Some (record { room = r; day = a })
    → least ≤ care_paid I rates t P x
