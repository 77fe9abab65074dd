-- What one room gives to the bill on a day and in a shift.
use Rattle.std.specs.Prelude.{ℕ, ◌-◌, ◌&&◌, not, is_none, length, map}
use Rattle.ih_tables.specs.declared.drafts.Draft.{Draft}
use Rattle.ih_plan.specs.Timetable.{Timetable, care_of}
use Rattle.ih_plan.specs.Presence.{present, skill_of, day_of}
use Rattle.ih_plan.specs.Costs.{genders_differ, capacity_of, age_spread, is_empty, skill_missing}
use Rattle.ih_plan.specs.Sums.{bit}

-- 1 where room r has two genders on day d
abbrev pub gender_mix : Draft → Timetable → ℕ → ℕ → ℕ
gender_mix I P r d = bit (genders_differ I (present I P r d))

-- the persons above its capacity
abbrev pub crowding : Draft → Timetable → ℕ → ℕ → ℕ
crowding I P r d = length (present I P r d) - capacity_of I r

-- oldest minus youngest age group
abbrev pub age_mix : Draft → Timetable → ℕ → ℕ → ℕ
age_mix I P r d = age_spread I (present I P r d)

-- 1 where room r is occupied in shift k and has no nurse
abbrev pub bare_shift : Draft → Timetable → ℕ → ℕ → ℕ
bare_shift I P r k = bit (is_none (care_of P r k) && not (is_empty (present I P r (day_of k))))

-- the required skill above the nurse's
abbrev pub skill_gap : Draft → Timetable → ℕ → ℕ → ℕ
skill_gap I P r k = skill_missing I (care_of P r k) (map (skill_of I P k) (present I P r (day_of k)))
