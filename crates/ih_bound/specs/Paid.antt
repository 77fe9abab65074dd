-- What each person of a timetable pays for its care, its bed, its surgery and its waiting.
use Rattle.std.specs.Prelude.{ℕ, ◌+◌, ◌-◌, ◌*◌, Bool, false, not, ◌&&◌, is_none, if◌then◌else◌, Option, Some, None, map}
use Rattle.ih_tables.specs.declared.drafts.Draft.{Draft}
use Rattle.ih_tables.specs.declared.drafts.Patient.{Patient}
use Rattle.ih_tables.specs.Sizes.{shift_count}
use Rattle.ih_plan.specs.declared.moves.Placement.{Placement}
use Rattle.ih_plan.specs.Timetable.{Timetable, stay_of}
use Rattle.ih_plan.specs.Persons.{person_of}
use Rattle.ih_plan.specs.Presence.{Admission, admission_of, covers, room_of, shifts_of, skill_of, workload_of}
use Rattle.ih_plan.specs.Sums.{sum_below, bit}
use Rattle.ih_plan.specs.Costs.{skill_level, nurse_for, distinct_nurses, of_patient, delay}
use Rattle.ih_validate.specs.Members.{carer_of}
use Rattle.ih_bound.specs.declared.prices.Rates.{Rates}
use Rattle.ih_bound.specs.Tariffs.{Tariff}

-- what care by nurse n in shift k is worth: the missing skill, and the price of the workload
abbrev pub care_price : Draft → Rates → Tariff → ℕ → ℕ → ℕ → ℕ → ℕ
care_price I rates t skill load k n = rates.skill * (skill - skill_level I n) + t.work n k * load

-- what care in shift k by the nurse who is there is worth: the missing skill, and the price of the workload; else 0
abbrev pub care_price_of : Draft → Rates → Tariff → ℕ → ℕ → ℕ → Option ℕ → ℕ
care_price_of I rates t skill load k None = 0
care_price_of I rates t skill load k (Some n) = care_price I rates t skill load k n

-- what person x pays in shift k
abbrev pub shift_paid : Draft → Rates → Tariff → Timetable → ℕ → ℕ → ℕ
shift_paid I rates t P x k =
    care_price_of I rates t (skill_of I P k x) (workload_of I P k x) k (carer_of I P k x)

-- how many nurses person x sees
abbrev pub nurses_of : Draft → Timetable → ℕ → ℕ
nurses_of I P x = distinct_nurses I (map (nurse_for P (room_of I P x)) (shifts_of I P x))

-- what person x pays for care
unfoldable pub care_paid : Draft → Rates → Tariff → Timetable → ℕ → ℕ
care_paid I rates t P x = sum_below (shift_count I) (shift_paid I rates t P x) + rates.nurse * nurses_of I P x

-- a person who stays n days is there on day d
abbrev pub is_there : Option Admission → ℕ → ℕ → Bool
is_there None n d = false
is_there (Some a) n d = covers a.day n d

-- what person x pays for beds
unfoldable pub bed_paid : Draft → Tariff → Timetable → ℕ → ℕ
bed_paid I t P x =
    sum_below I.days (λ d. if is_there (admission_of I P x) (person_of I x).length_of_stay d then t.bed d else 0)

-- what patient x pays for so many minutes in theatre i on day d
abbrev pub theatre_paid : Tariff → ℕ → ℕ → ℕ → ℕ → ℕ
theatre_paid t x minutes i d = minutes * t.theatre i d + t.share x i d

-- what patient x with this stay pays for surgery
abbrev pub surgery_paid : Tariff → ℕ → Patient → Option Placement → ℕ
surgery_paid t x p None = 0
surgery_paid t x p (Some at) =
    p.surgery_duration * t.surgeon p.surgeon_id.0 at.day.0
    + theatre_paid t x p.surgery_duration at.theatre.0 at.day.0

-- and for waiting, or for being left out
abbrev pub waiting_paid : Rates → Patient → Option Placement → ℕ
waiting_paid rates p stay = rates.delay * delay p stay + rates.left_out * bit (not p.mandatory && is_none stay)

-- what patient x pays for its stay, and 0 for an occupant
abbrev pub stay_paid : Draft → Rates → Tariff → Timetable → ℕ → ℕ
stay_paid I rates t P x = of_patient I x (λ p. surgery_paid t x p (stay_of P x) + waiting_paid rates p (stay_of P x))

-- what person x pays
unfoldable pub paid : Draft → Rates → Tariff → Timetable → ℕ → ℕ
paid I rates t P x = care_paid I rates t P x + bed_paid I t P x + stay_paid I rates t P x
