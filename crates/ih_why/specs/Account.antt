-- What is said of an instance that has no feasible timetable: a line for each patient who must be admitted and can't
-- be, for each room and day whose occupants break a rule, and for each occupied room in a shift that nobody works.
use Rattle.std.specs.Prelude.{ℕ, ◌-◌, List, [], ◌++◌, Option, Some, None, if◌then◌else◌, slice_get}
use Rattle.std.specs.Option.{option_map_or}
use Rattle.ih_tables.specs.declared.drafts.Draft.{Draft}
use Rattle.ih_tables.specs.declared.drafts.Patient.{Patient}
use Rattle.ih_tables.specs.declared.drafts.Surgeon.{Surgeon}
use Rattle.ih_tables.specs.Sizes.{patient_count, room_count, shift_count}
use Rattle.ih_plan.specs.Costs.{capacity_of}
use Rattle.ih_plan.specs.Presence.{day_of}
use Rattle.ih_solution.specs.Solution.{room_id, shift_type_of}
use Rattle.ih_validate.specs.Report.{lines_below}
use Rattle.ih_why.specs.declared.reasons.Reason.{Reason}
use Rattle.ih_why.specs.declared.reasons.Reason.TheVariants.{DueEarly, ReleasedLate, NoRoom, NoTheatre, NoSurgeon, DayTaken, RoomsTaken, NoDay}
use Rattle.ih_why.specs.Admissions.{reason_of, taken_day, window_end}
use Rattle.ih_why.specs.Beds.{is_crowded, is_deserted, is_mixed, occupants_in}
use Rattle.ih_why.specs.Sentences.{crowd_text, day_taken_text, desert_text, due_early_text, mix_text, no_day_text, no_room_text, no_surgeon_text, no_theatre_text, patient_text, released_late_text, span_text, taken_text}

-- ---- patients

-- the name of surgeon s
abbrev pub surgeon_id : Draft → ℕ → List ℕ
surgeon_id I s = option_map_or (λ (a : Surgeon). a.id) (slice_get I.surgeons s) []

-- the days of the window
unfoldable pub window_text : Draft → Patient → List ℕ
window_text I p = span_text p.surgery_release_day (window_end I p - 1)

-- how a reason is said
unfoldable pub reason_text : Draft → Patient → Reason → List ℕ
reason_text I p DueEarly = due_early_text
reason_text I p ReleasedLate = released_late_text
reason_text I p NoRoom = no_room_text
reason_text I p NoTheatre = no_theatre_text p.surgery_duration (window_text I p)
reason_text I p NoSurgeon = no_surgeon_text (surgeon_id I p.surgeon_id.0) p.surgery_duration (window_text I p)
reason_text I p DayTaken = option_map_or day_taken_text (taken_day I p) []
reason_text I p RoomsTaken = taken_text (window_text I p)
reason_text I p NoDay = no_day_text (surgeon_id I p.surgeon_id.0) (window_text I p)

-- a line, where there is a reason
abbrev pub reason_line : Draft → Patient → Option Reason → List ℕ
reason_line I p None = []
reason_line I p (Some why) = patient_text p.id (reason_text I p why)

-- what is said of patient p
abbrev pub patient_line : Draft → ℕ → List ℕ
patient_line I p = option_map_or (λ (a : Patient). reason_line I a (reason_of I a)) (slice_get I.patients p) []

-- ---- rooms

-- that room r has more occupants on day d than it is for
unfoldable pub crowd_line : Draft → ℕ → ℕ → List ℕ
crowd_line I r d = if is_crowded I r d then crowd_text (room_id I r) d (occupants_in I r d) (capacity_of I r) else []

-- that it has two genders
unfoldable pub mix_line : Draft → ℕ → ℕ → List ℕ
mix_line I r d = if is_mixed I r d then mix_text (room_id I r) d else []

-- what is said of room r on day d
unfoldable pub day_lines : Draft → ℕ → ℕ → List ℕ
day_lines I r d = crowd_line I r d ++ mix_line I r d

-- what is said of room r in shift k
unfoldable pub shift_line : Draft → ℕ → ℕ → List ℕ
shift_line I r k = if is_deserted I r k then desert_text (day_of k) (shift_type_of I k) (room_id I r) else []

-- what is said of room r, day by day and shift by shift
unfoldable pub room_days_text : Draft → ℕ → List ℕ
room_days_text I r = lines_below I.days (day_lines I r)

unfoldable pub room_shifts_text : Draft → ℕ → List ℕ
room_shifts_text I r = lines_below (shift_count I) (shift_line I r)

-- ---- all of it

unfoldable pub account : Draft → List ℕ
account I =
    lines_below (patient_count I) (patient_line I)
    ++ (lines_below (room_count I) (room_days_text I) ++ lines_below (room_count I) (room_shifts_text I))
