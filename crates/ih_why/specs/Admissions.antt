-- When a mandatory patient can be admitted, by the occupants and the patient alone, and why not.
use Rattle.std.specs.Prelude.{ℕ, ◌+◌, ◌-◌, ◌==◌, ◌&&◌, min, nat_le, nat_lt, not, Bool, List, [], ◌∷◌, Option, None, if◌then◌else◌, false, find, is_some, slice_index}
use Rattle.std.specs.List.{list_all, list_any, range_with_len}
use Rattle.std.specs.Option.{option_map_or}
use Rattle.ih_tables.specs.declared.drafts.Draft.{Draft}
use Rattle.ih_tables.specs.declared.drafts.Patient.{Patient}
use Rattle.ih_tables.specs.declared.drafts.Theatre.{Theatre}
use Rattle.ih_tables.specs.declared.ids.RoomNo.{RoomNo}
use Rattle.ih_tables.specs.Sizes.{room_count}
use Rattle.ih_plan.specs.Costs.{surgeon_maximum}
use Rattle.ih_plan.specs.Presence.{covers, end_from}
use Rattle.ih_why.specs.declared.reasons.Reason.{Reason}
use Rattle.ih_why.specs.declared.reasons.Reason.TheVariants.{DueEarly, ReleasedLate, NoRoom, NoTheatre, NoSurgeon, DayTaken, RoomsTaken, NoDay}
use Rattle.ih_why.specs.Beds.{has_bed}

-- ---- what a day of admission asks for

-- the day after the last of the window: of the horizon, and of those until the due day
abbrev pub window_end : Draft → Patient → ℕ
window_end I p = option_map_or (λ (due : ℕ). min (due + 1) I.days) p.surgery_due_day I.days

-- the days from release on and before that
abbrev pub window : Draft → Patient → List ℕ
window I p = range_with_len p.surgery_release_day (window_end I p - p.surgery_release_day)

-- room r is none of those that are incompatible
abbrev pub suits : Patient → ℕ → Bool
suits p r = not (list_any (λ (q : RoomNo). q.0 == r) p.incompatible_room_ids)

-- a theatre is open for long enough on day d
abbrev pub has_theatre : Draft → Patient → ℕ → Bool
has_theatre I p d =
    list_any (λ (t : Theatre). nat_le p.surgery_duration (slice_index t.availability d)) I.operating_theaters

-- the surgeon has enough minutes on day d
abbrev pub has_surgeon : Draft → Patient → ℕ → Bool
has_surgeon I p d = nat_le p.surgery_duration (surgeon_maximum I p.surgeon_id.0 d)

-- the days of a stay that begins on day d, as far as the horizon goes
abbrev pub stay_days : Draft → Patient → ℕ → List ℕ
stay_days I p d = range_with_len d (end_from I d p.length_of_stay - d)

-- room r suits, and has a bed on each day of a stay that begins on day d
abbrev pub is_free : Draft → Patient → ℕ → ℕ → Bool
is_free I p d r = suits p r && list_all (has_bed I r p.gender) (stay_days I p d)

abbrev pub rooms : Draft → List ℕ
rooms I = range_with_len 0 (room_count I)

-- there is such a room
abbrev pub has_room : Draft → Patient → ℕ → Bool
has_room I p d = list_any (is_free I p d) (rooms I)

-- there is all of this for a stay that begins on day d
abbrev pub may_begin : Draft → Patient → ℕ → Bool
may_begin I p d = has_theatre I p d && has_surgeon I p d && has_room I p d

-- the patient can be admitted: on some day of the window
abbrev pub has_admission : Draft → Patient → Bool
has_admission I p = list_any (may_begin I p) (window I p)

-- ---- why a patient can't be admitted

-- the due day is before the release day
abbrev pub is_due_early : Patient → Bool
is_due_early p = option_map_or (λ (due : ℕ). nat_lt due p.surgery_release_day) p.surgery_due_day false

-- each stay that begins in the window has day d
abbrev pub is_needed : Draft → Patient → ℕ → Bool
is_needed I p d = list_all (λ a. covers a p.length_of_stay d) (window I p)

-- room r suits, and has a bed on day d
abbrev pub has_place : Draft → Patient → ℕ → ℕ → Bool
has_place I p d r = suits p r && has_bed I r p.gender d

-- on day d each room that suits is full, or has another gender in it
abbrev pub is_taken : Draft → Patient → ℕ → Bool
is_taken I p d = not (list_any (has_place I p d) (rooms I))

-- the first day that is both
unfoldable pub taken_day : Draft → Patient → Option ℕ
taken_day I p = find (λ d. is_needed I p d && is_taken I p d) (range_with_len 0 I.days)

-- this is so of the patient
abbrev pub holds : Draft → Patient → Reason → Bool
holds I p DueEarly = is_due_early p
holds I p ReleasedLate = nat_le I.days p.surgery_release_day
holds I p NoRoom = not (list_any (suits p) (rooms I))
holds I p NoTheatre = not (list_any (has_theatre I p) (window I p))
holds I p NoSurgeon = not (list_any (has_surgeon I p) (window I p))
holds I p DayTaken = is_some (taken_day I p)
holds I p RoomsTaken = not (list_any (has_room I p) (window I p))
holds I p NoDay = not (has_admission I p)

-- the first that is so
unfoldable pub first_reason : Draft → Patient → Option Reason
first_reason I p =
    find (holds I p) (DueEarly ∷ ReleasedLate ∷ NoRoom ∷ NoTheatre ∷ NoSurgeon ∷ DayTaken ∷ RoomsTaken ∷ NoDay ∷ [])

-- why a patient who must be admitted can't be
unfoldable pub reason_of : Draft → Patient → Option Reason
reason_of I p = if p.mandatory then first_reason I p else None
