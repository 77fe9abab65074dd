-- What differs between an older timetable and a newer one of the same instance, and how many such changes there are.
use Rattle.std.specs.Prelude.{ℕ, ◌+◌, ◌==◌, ◌&&◌, not, Bool, true, false, Option, Some, None}
use Rattle.ih_tables.specs.declared.drafts.Draft.{Draft}
use Rattle.ih_tables.specs.Sizes.{patient_count, room_count, shift_count}
use Rattle.ih_plan.specs.declared.moves.Placement.{Placement}
use Rattle.ih_plan.specs.Costs.{is_empty}
use Rattle.ih_plan.specs.Presence.{day_of, present}
use Rattle.ih_plan.specs.Sums.{count_below, sum_below}
use Rattle.ih_plan.specs.Timetable.{Timetable, care_of, stay_of}
use Rattle.ih_changes.specs.declared.counts.Changes.{Changes}

-- ---- patients

-- the day, the room and the theatre are the same, or the patient is left out both times
abbrev pub is_same_stay : Option Placement → Option Placement → Bool
is_same_stay None None = true
is_same_stay (Some a) (Some b) = a.day.0 == b.day.0 && (a.room.0 == b.room.0 && a.theatre.0 == b.theatre.0)
is_same_stay a b = false

-- patient p's stays differ in the timetables
abbrev pub is_changed : Timetable → Timetable → ℕ → Bool
is_changed O P p = not (is_same_stay (stay_of O p) (stay_of P p))

-- how many patients' stays differ
unfoldable pub changed_stays : Draft → Timetable → Timetable → ℕ
changed_stays I O P = count_below (patient_count I) (is_changed O P)

-- ---- nurses

-- the same nurse, or none both times
abbrev pub is_same_nurse : Option ℕ → Option ℕ → Bool
is_same_nurse None None = true
is_same_nurse (Some m) (Some n) = m == n
is_same_nurse m n = false

-- room r has another nurse in shift k
abbrev pub has_another : Timetable → Timetable → ℕ → ℕ → Bool
has_another O P r k = not (is_same_nurse (care_of O r k) (care_of P r k))

-- somebody is in room r on day d
abbrev pub is_occupied : Draft → Timetable → ℕ → ℕ → Bool
is_occupied I P r d = not (is_empty (present I P r d))

-- room r has another nurse in shift k, while somebody is there
abbrev pub has_new_nurse : Draft → Timetable → Timetable → ℕ → ℕ → Bool
has_new_nurse I O P r k = has_another O P r k && is_occupied I P r (day_of k)

-- in how many shifts of occupied rooms the nurse differs
unfoldable pub changed_cares : Draft → Timetable → Timetable → ℕ
changed_cares I O P = sum_below (room_count I) (λ r. count_below (shift_count I) (has_new_nurse I O P r))

-- ---- both

-- how many of each there are
abbrev pub counted : Draft → Timetable → Timetable → Changes
counted I O P = record { patients = changed_stays I O P; nurses = changed_cares I O P }

-- how many there are
abbrev pub changes : Draft → Timetable → Timetable → ℕ
changes I O P = changed_stays I O P + changed_cares I O P
