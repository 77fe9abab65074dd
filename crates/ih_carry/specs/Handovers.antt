-- What the next ward keeps of a ward's timetable: who and what both know by its id, on the days that both have.
use Rattle.std.specs.Prelude.{◌≡◌, ℕ, ◌+◌, ◌-◌, ◌*◌, ◌<◌, nat_lt, Option, Some, None, Result, Ok, Err, if◌then◌else◌, is_some, ok_or, option_and_then}
use Rattle.std.specs.Result.{result_err, result_ok}
use Rattle.ih_tables.specs.declared.drafts.Draft.{Draft}
use Rattle.ih_tables.specs.declared.ids.Day.{Day}
use Rattle.ih_tables.specs.declared.ids.NurseNo.{NurseNo}
use Rattle.ih_tables.specs.declared.ids.PatientNo.{PatientNo}
use Rattle.ih_tables.specs.declared.ids.RoomNo.{RoomNo}
use Rattle.ih_tables.specs.declared.ids.TheatreNo.{TheatreNo}
use Rattle.ih_tables.specs.Sizes.{patient_count, room_count, shift_count}
use Rattle.ih_tables.specs.Works.{max_load}
use Rattle.ih_plan.specs.declared.moves.Placement.{Placement}
use Rattle.ih_plan.specs.Presence.{day_of}
use Rattle.ih_plan.specs.Timetable.{IsPlanOf, Timetable, choice_of, stay_of}
use Rattle.ih_solution.specs.Solution.{nurse_id, patient_id, room_id, theatre_id}
use Rattle.ih_carry.specs.declared.handovers.Handover.{Handover}
use Rattle.ih_carry.specs.declared.losses.Loss.{Loss}
use Rattle.ih_carry.specs.declared.losses.Loss.TheVariants.{Before, Past, RoomGone, TheatreGone, NurseGone, OffDuty}
use Rattle.ih_carry.specs.Ids.{nurse_with, patient_with, room_with, theatre_with}
use Rattle.ih_carry.specs.Losses.{◌>>=◌}

-- a ward with its timetable, the next ward, and the day of the ward that is day 0 of the next one
pub record HandoverData : Type 0 where
  pub ward : Draft
  pub plan : Timetable
  pub next : Draft
  pub days : ℕ

abbrev pub handover_of : Handover → HandoverData
handover_of h = record { ward = h.ward.now.draft; plan = h.plan.now; next = h.next.now.draft; days = h.days }

-- ---- the ward's days, rooms and theatres in the next ward

-- day d, so many days earlier
abbrev pub day_in : HandoverData → ℕ → Result Day Loss
day_in h d =
    if nat_lt d h.days then Err Before
    else (if nat_lt (d - h.days) h.next.days then Ok (record { 0 = d - h.days }) else Err Past)

-- the room with the id of room r
abbrev pub room_in : HandoverData → ℕ → Result RoomNo Loss
room_in h r = ok_or (room_with h.next (room_id h.ward r)) RoomGone

-- the theatre with the id of theatre t
abbrev pub theatre_in : HandoverData → ℕ → Result TheatreNo Loss
theatre_in h t = ok_or (theatre_with h.next (theatre_id h.ward t)) TheatreGone

-- ---- stays

-- a placement in the ward, as one in the next ward
unfoldable pub placed : HandoverData → Placement → Result Placement Loss
placed h at = do
  day ← day_in h at.day.0
  room ← room_in h at.room.0
  theatre ← theatre_in h at.theatre.0
  Ok (record { day = day; room = room; theatre = theatre })

-- the stay in the ward of the patient with the id of patient q of the next ward
abbrev pub known_stay : HandoverData → ℕ → Option Placement
known_stay h q = option_and_then (λ (p : PatientNo). stay_of h.plan p.0) (patient_with h.ward (patient_id h.next q))

-- the stay that patient q of the next ward keeps
abbrev pub kept_stay : HandoverData → ℕ → Option Placement
kept_stay h q = option_and_then (λ at. result_ok (placed h at)) (known_stay h q)

-- why patient q loses the stay in the ward
abbrev pub lost_stay : HandoverData → ℕ → Option Loss
lost_stay h q = option_and_then (λ at. result_err (placed h at)) (known_stay h q)

-- ---- nurses

-- the nurse works shift k of the next ward
abbrev pub on_duty : HandoverData → ℕ → NurseNo → Result NurseNo Loss
on_duty h k n = if is_some (max_load h.next n.0 k) then Ok n else Err OffDuty

-- the nurse with the id of nurse m of the ward, for shift k of the next ward
unfoldable pub nurse_in : HandoverData → ℕ → ℕ → Result NurseNo Loss
nurse_in h k m = ok_or (nurse_with h.next (nurse_id h.ward m)) NurseGone >>= on_duty h k

-- the nurse of room s in shift k of the ward; shifts past the last have none
abbrev pub nurse_of : HandoverData → ℕ → ℕ → Option NurseNo
nurse_of h s k = if nat_lt k (shift_count h.ward) then choice_of h.plan s k else None

-- the nurse in the ward of the room with the id of room r of the next ward, as many days later
abbrev pub known_nurse : HandoverData → ℕ → ℕ → Option NurseNo
known_nurse h r k =
    option_and_then (λ (s : RoomNo). nurse_of h s.0 (k + 3 * h.days)) (room_with h.ward (room_id h.next r))

-- the nurse that room r of the next ward keeps in shift k
unfoldable pub kept_nurse : HandoverData → ℕ → ℕ → Option NurseNo
kept_nurse h r k = option_and_then (λ (m : NurseNo). result_ok (nurse_in h k m.0)) (known_nurse h r k)

-- nurse m of room s and shift k of the ward, as the nurse of that room and shift in the next ward
unfoldable pub handed : HandoverData → ℕ → ℕ → ℕ → Result NurseNo Loss
handed h s k m = do
  day ← day_in h (day_of k)
  room ← room_in h s
  nurse_in h (k - 3 * h.days) m

-- ---- the timetable that is kept

-- the first n patients have the stays that they keep
pub record HasStays (h : HandoverData) (n : ℕ) (Q : Timetable) : Type 0 where
  pub each : (q : ℕ) → q < n → stay_of Q q ≡ kept_stay h q

-- the first n rooms have the nurses that they keep
pub record HasNurses (h : HandoverData) (n : ℕ) (Q : Timetable) : Type 0 where
  pub each : (r k : ℕ) → r < n → k < shift_count h.next → choice_of Q r k ≡ kept_nurse h r k

-- the timetable of the next ward that has what is kept, and nothing else
pub record IsCarried (h : HandoverData) (Q : Timetable) : Type 0 where
  pub fits : IsPlanOf h.next Q
  pub stays : HasStays h (patient_count h.next) Q
  pub nurses : HasNurses h (room_count h.next) Q
