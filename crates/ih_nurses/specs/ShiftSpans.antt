-- The counted shifts of a stay in its room, and the nurses who have them.
use Rattle.std.specs.Prelude.{ℕ, ◌+◌, ◌-◌, ◌*◌, ◌<◌, ◌≤◌, List, [], Option, Some, None, map}
use Rattle.std.specs.List.{range_with_len}
use Rattle.ih_tables.specs.declared.drafts.Draft.{Draft}
use Rattle.ih_tables.specs.Sizes.{room_count, shift_count}
use Rattle.ih_plan.specs.Timetable.{Timetable, care_of}
use Rattle.ih_plan.specs.Presence.{Admission, end_from}
use Rattle.ih_nurses.specs.declared.shift_spans.ShiftSpan.{ShiftSpan}

-- the counted shifts of an admission of n days, in its room
abbrev pub shift_span_in : Draft → Option Admission → ℕ → Option ShiftSpan
shift_span_in I None n = None
shift_span_in I (Some a) n =
    Some (record { room = record { 0 = a.room }; from = 3 * a.day; len = 3 * (end_from I a.day n - a.day) })

-- the room and the shifts are in range
abbrev pub IsShiftSpan : Draft → ShiftSpan → Type 0
IsShiftSpan I s = (s.room.0 < room_count I) × (s.from + s.len ≤ shift_count I)

-- the nurse of each shift
abbrev pub nurses_over : Timetable → Option ShiftSpan → List (Option ℕ)
nurses_over P None = []
nurses_over P (Some s) = map (care_of P s.room.0) (range_with_len s.from s.len)
