-- The surgeries of a timetable as an iCalendar file (RFC 5545). Long lines aren't folded: RFC 5545 says "should" of that.
use Rattle.std.specs.Prelude.{ℕ, Bool, ◌==◌, ◌||◌, List, [], ◌∷◌, ◌++◌, Option, codes, decimal, if◌then◌else◌, not, slice_get}
use Rattle.std.specs.Char.{is_ascii_control}
use Rattle.std.specs.List.{filter, flat_map}
use Rattle.std.specs.Option.{option_map_or}
use Rattle.jiff.specs.Types.{Date}
use Rattle.jiff.specs.Words.{date_text}
use Rattle.ih_tables.specs.declared.drafts.Draft.{Draft}
use Rattle.ih_tables.specs.declared.drafts.Patient.{Patient}
use Rattle.ih_tables.specs.Sizes.{theatre_count}
use Rattle.ih_plan.specs.declared.moves.Placement.{Placement}
use Rattle.ih_plan.specs.Costs.{operated}
use Rattle.ih_plan.specs.Timetable.{Timetable, stay_of}
use Rattle.ih_solution.specs.Solution.{room_id, theatre_id}
use Rattle.ih_sheet.specs.Dates.{known_date}
use Rattle.ih_sheet.specs.Rows.{Row, rows_below, surgeon_id}

-- ---- texts and lines

-- a backslash, a semicolon or a comma
abbrev pub is_special : ℕ → Bool
is_special b = b == 92 || (b == 59 || b == 44)

-- what stands for a byte of a name: its signs have no meaning, and it ends no line
abbrev pub escaped_byte : ℕ → List ℕ
escaped_byte b =
    if b == 10 then codes "\\n" else if is_ascii_control b then codes " " else if is_special b then 92 ∷ b ∷ [] else b ∷ []

abbrev pub escaped : List ℕ → List ℕ
escaped text = flat_map escaped_byte text

-- the date as 20260105
abbrev pub digits : Date → List ℕ
digits date = filter (λ b. not (b == 45)) (date_text date)

-- a line, of the parts that a row has: one after the other, and then carriage return and line feed
unfoldable pub line_text : Row → List ℕ
line_text parts = flat_map (λ part. part) parts ++ 13 ∷ 10 ∷ []

-- ---- events

-- A surgery as an event of a whole day. There is no clock: that it was made at the midnight of this day is said only as
-- RFC 5545 wants to be told.
abbrev pub event_lines : (day patient surgeon minutes theatre room : List ℕ) → List Row
event_lines day patient surgeon minutes theatre room =
    (codes "BEGIN:VEVENT" ∷ [])
    ∷ (codes "UID:" ∷ patient ∷ codes "@ih_planner" ∷ [])
    ∷ (codes "DTSTAMP:" ∷ day ∷ codes "T000000Z" ∷ [])
    ∷ (codes "DTSTART;VALUE=DATE:" ∷ day ∷ [])
    ∷ (codes "SUMMARY:" ∷ patient ∷ codes "\\, " ∷ surgeon ∷ codes "\\, " ∷ minutes ∷ codes " minutes" ∷ [])
    ∷ (codes "LOCATION:" ∷ theatre ∷ [])
    ∷ (codes "DESCRIPTION:Room " ∷ room ∷ [])
    ∷ (codes "END:VEVENT" ∷ []) ∷ []

-- the room that patient p has
abbrev pub room_of : Draft → Timetable → ℕ → List ℕ
room_of I P p = option_map_or (λ (at : Placement). room_id I at.room.0) (stay_of P p) []

-- the event of the surgery of patient p in theatre t, on the day with these digits
unfoldable pub event : Draft → Timetable → List ℕ → ℕ → ℕ → List Row
event I P day t p =
    option_map_or
    (λ (a : Patient). event_lines day (escaped a.id) (escaped (surgeon_id I a.surgeon_id.0)) (decimal a.surgery_duration)
    (escaped (theatre_id I t)) (escaped (room_of I P p)))
    (slice_get I.patients p) []

-- the events in theatre t on day d, by the number of the patient: none where the day has no date
abbrev pub events_of_day : Draft → List (Option Date) → Timetable → ℕ → ℕ → List Row
events_of_day I dates P t d =
    option_map_or (λ date. flat_map (event I P (digits date) t) (operated I P t d)) (known_date dates d) []

-- the events in theatre t, by day
abbrev pub events_of_theatre : Draft → List (Option Date) → Timetable → ℕ → List Row
events_of_theatre I dates P t = rows_below I.days (events_of_day I dates P t)

-- ---- the file

-- the lines before the events
abbrev pub calendar_head : List Row
calendar_head =
    (codes "BEGIN:VCALENDAR" ∷ []) ∷ (codes "VERSION:2.0" ∷ []) ∷ (codes "PRODID:-//ih_planner//table//EN" ∷ []) ∷ []

-- the events of all theatres, in number order, with the lines before and behind them
abbrev pub calendar_lines : Draft → List (Option Date) → Timetable → List Row
calendar_lines I dates P =
    calendar_head ++ (rows_below (theatre_count I) (events_of_theatre I dates P) ++ (codes "END:VCALENDAR" ∷ []) ∷ [])

abbrev pub calendar_text : Draft → List (Option Date) → Timetable → List ℕ
calendar_text I dates P = flat_map line_text (calendar_lines I dates P)
