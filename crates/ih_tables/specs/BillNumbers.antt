-- The seventeen numbers of a bill by name: the place of each.
use Rattle.std.specs.Prelude.{ℕ}

-- ---- in v, the broken rules

-- rooms and days with two genders
abbrev pub mixed_gender : ℕ
mixed_gender = 0

-- patients in a room that is incompatible
abbrev pub incompatible_room : ℕ
incompatible_room = 1

-- minutes of surgery above a surgeon's maximum of a day
abbrev pub surgeon_overrun : ℕ
surgeon_overrun = 2

-- minutes of surgery above a theatre's availability of a day
abbrev pub theatre_overrun : ℕ
theatre_overrun = 3

-- mandatory patients who aren't admitted
abbrev pub unscheduled_mandatory : ℕ
unscheduled_mandatory = 4

-- patients admitted before their release day or after their due day
abbrev pub admission_window : ℕ
admission_window = 5

-- persons above a room's capacity
abbrev pub room_capacity : ℕ
room_capacity = 6

-- rooms and shifts with a nurse who doesn't work the shift
abbrev pub nurse_presence : ℕ
nurse_presence = 7

-- occupied rooms and shifts without a nurse
abbrev pub uncovered_room : ℕ
uncovered_room = 8

-- ---- in s, the costs

-- oldest minus youngest age group, by room and day
abbrev pub mixed_age : ℕ
mixed_age = 0

-- required skill above the nurse's
abbrev pub nurse_skill : ℕ
nurse_skill = 1

-- different nurses each person sees
abbrev pub continuity_of_care : ℕ
continuity_of_care = 2

-- workload above a nurse's maximum of a shift
abbrev pub excess_workload : ℕ
excess_workload = 3

-- theatres and days with surgery
abbrev pub open_theatre : ℕ
open_theatre = 4

-- a surgeon's different theatres of a day, minus one
abbrev pub surgeon_transfer : ℕ
surgeon_transfer = 5

-- days between release and admission
abbrev pub patient_delay : ℕ
patient_delay = 6

-- optional patients who aren't admitted
abbrev pub unscheduled_optional : ℕ
unscheduled_optional = 7
