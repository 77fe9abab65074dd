-- Between which writes is chosen, and the cheapest of them.
use Rattle.std.specs.Prelude.{ℕ, ℤ, int_lt, not, Bool, List, [], ◌∷◌, Option, Some, None, if◌then◌else◌, map, filter, flat_map, slice_get, ◌==◌}
use Rattle.std.specs.Option.{option_map_or}
use Rattle.std.specs.List.{range_with_len, list_any}
use Rattle.ih_tables.specs.declared.drafts.Draft.{Draft}
use Rattle.ih_tables.specs.declared.drafts.Patient.{Patient}
use Rattle.ih_tables.specs.declared.ids.RoomNo.{RoomNo}
use Rattle.ih_tables.specs.declared.ids.PatientNo.{PatientNo}
use Rattle.ih_tables.specs.Sizes.{room_count, theatre_count}
use Rattle.ih_tables.specs.Works.{working}
use Rattle.ih_plan.specs.declared.moves.Placement.{Placement}
use Rattle.ih_plan.specs.declared.moves.Write.{Write}
use Rattle.ih_plan.specs.declared.moves.Write.TheVariants.{SetStay, SetCare}
use Rattle.ih_plan.specs.Timetable.{Timetable}
use Rattle.ih_plan.specs.Writes.{put}
use Rattle.ih_plan.specs.Draws.{window_len}
use Rattle.ih_fill.specs.declared.candidates.Candidate.{Candidate}

-- a stay from day d on in room r, with surgery in theatre t
abbrev pub placed : ℕ → ℕ → ℕ → Placement
placed d r t = record { day = record { 0 = d }; room = record { 0 = r }; theatre = record { 0 = t } }

-- room r suits a patient
abbrev pub suits : Patient → ℕ → Bool
suits a r = not (list_any (λ (q : RoomNo). q.0 == r) a.incompatible_room_ids)

-- the rooms below n that suit a patient, rising
abbrev pub rooms_for : Patient → ℕ → List ℕ
rooms_for a n = filter (suits a) (range_with_len 0 n)

-- patient p in a room from a day on, operated on in each of the first n theatres
abbrev pub stays_in : PatientNo → ℕ → ℕ → ℕ → List Write
stays_in p d r n = map (λ t. SetStay p (Some (placed d r t))) (range_with_len 0 n)

-- patient p from a day on in each of the first n rooms that suits, by room, then by theatre
abbrev pub stays_on : Draft → PatientNo → Patient → ℕ → ℕ → List Write
stays_on I p a d n = flat_map (λ r. stays_in p d r (theatre_count I)) (rooms_for a n)

-- the stays that patient p may get: on each day of the window
abbrev pub stay_writes : Draft → ℕ → List Write
stay_writes I p =
    option_map_or
    (λ (a : Patient). flat_map (λ d. stays_on I (record { 0 = p }) a d (room_count I))
    (range_with_len a.surgery_release_day (window_len I a)))
    (slice_get I.patients p) []

-- the nurses that room r may get in shift k, rising: those who work it
abbrev pub care_writes : Draft → ℕ → ℕ → List Write
care_writes I r k = map (λ n. SetCare (record { 0 = r }) (record { 0 = k }) (Some n)) (working I k)

-- the write of least value among w and the others, the first on a tie
abbrev pub cheapest : (Write → ℤ) → Write → List Write → Write
cheapest value w [] = w
cheapest value w (x ∷ xs) = if int_lt (value x) (value w) then cheapest value x xs else cheapest value w xs

-- a write with its value
abbrev pub valued : (Write → ℤ) → Write → Candidate
valued value w = record { write = w; value = value w }

-- the cheapest of the writes with its value, where there are any
abbrev pub least_of : (Write → ℤ) → List Write → Option Candidate
least_of value [] = None
least_of value (w ∷ ws) = Some (valued value (cheapest value w ws))

-- the timetable with the candidate's write, where there is one
abbrev pub put_candidate : Option Candidate → Timetable → Timetable
put_candidate None P = P
put_candidate (Some c) P = put c.write P
