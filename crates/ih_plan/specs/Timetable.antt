-- A timetable as plain data.
use Rattle.std.specs.Prelude.{◌≡◌, ℕ, ◌+◌, ◌*◌, ◌<◌, List, length, Option, Some, None, replicate, slice_get, option_and_then, option_map}
use Rattle.ih_tables.specs.declared.drafts.Draft.{Draft}
use Rattle.ih_tables.specs.declared.ids.NurseNo.{NurseNo}
use Rattle.ih_tables.specs.Sizes.{patient_count, room_count, shift_count, theatre_count, nurse_count}
use Rattle.ih_plan.specs.declared.moves.Placement.{Placement}

-- The stays by patient, and the choices of nurses by room and shift: those of room 0 first, rising by shift.
pub record Timetable : Type 0 where
  pub stays : List (Option Placement)
  pub cares : List (Option NurseNo)
  pub shifts : ℕ

-- the stay of patient p
abbrev pub stay_of : Timetable → ℕ → Option Placement
stay_of P p = option_and_then (λ (s : Option Placement). s) (slice_get P.stays p)

-- where the choice of room r and shift k stands
abbrev pub care_place : Timetable → ℕ → ℕ → ℕ
care_place P r k = P.shifts * r + k

-- the choice of room r and shift k
abbrev pub choice_of : Timetable → ℕ → ℕ → Option NurseNo
choice_of P r k = option_and_then (λ (c : Option NurseNo). c) (slice_get P.cares (care_place P r k))

-- the nurse of room r in shift k
abbrev pub care_of : Timetable → ℕ → ℕ → Option ℕ
care_of P r k = option_map (λ (n : NurseNo). n.0) (choice_of P r k)

-- nobody is admitted, and there are no nurses
abbrev pub empty : Draft → Timetable
empty I = record {
  stays = replicate (patient_count I) None;
  cares = replicate (shift_count I * room_count I) None;
  shifts = shift_count I;
}

-- The day, the room and the theatre are in range.
pub record IsPlacement (I : Draft) (at : Placement) : Type 0 where
  pub day : at.day.0 < I.days
  pub room : at.room.0 < room_count I
  pub theatre : at.theatre.0 < theatre_count I

-- The timetable has the sizes of the instance, and its entries are in range.
pub record IsPlanOf (I : Draft) (P : Timetable) : Type 0 where
  pub stays : length P.stays ≡ patient_count I
  pub shifts : P.shifts ≡ shift_count I
  pub cares : length P.cares ≡ shift_count I * room_count I
  pub placed : (p : ℕ) (at : Placement) → stay_of P p ≡ Some at → IsPlacement I at
  pub nursed : (r k n : ℕ) → care_of P r k ≡ Some n → n < nurse_count I
