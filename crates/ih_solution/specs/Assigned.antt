-- The rows of nurses, written into a timetable one after the other.
use Rattle.std.specs.Prelude.{◌≡◌, ◌<◌, ℕ, false, List, [], ◌∷◌, map, All, Some}
use Rattle.ih_tables.specs.declared.drafts.Draft.{Draft}
use Rattle.ih_tables.specs.declared.ids.RoomNo.{RoomNo}
use Rattle.ih_tables.specs.declared.ids.NurseNo.{NurseNo}
use Rattle.ih_tables.specs.declared.ids.Shift.{Shift}
use Rattle.ih_tables.specs.Sizes.{room_count, shift_count, nurse_count}
use Rattle.ih_plan.specs.declared.moves.Write.TheVariants.{SetCare}
use Rattle.ih_plan.specs.Timetable.{Timetable}
use Rattle.ih_plan.specs.Writes.{put_all}
use Rattle.ih_solution.specs.Reading.{has_nurse}
use Rattle.ih_solution.specs.declared.reader.rows.Assignment.{Assignment}
use Rattle.ih_solution.specs.declared.reader.rows.ListedNurse.{ListedNurse}

-- a room of the instance, without a nurse in shift k
pub record IsFree (I : Draft) (P : Timetable) (k : ℕ) (r : RoomNo) : Type 0 where
  pub inside : r.0 < room_count I
  pub free : has_nurse P r.0 k ≡ false

-- a shift and rooms of the instance, which have no nurse in that shift
pub record IsAssignment (I : Draft) (P : Timetable) (a : Assignment) : Type 0 where
  pub shift : a.shift.0 < shift_count I
  pub rooms : All (IsFree I P a.shift.0) a.rooms

-- a nurse of the instance, whose rooms have no nurse in the nurse's shifts
pub record IsListedNurse (I : Draft) (P : Timetable) (row : ListedNurse) : Type 0 where
  pub nurse : row.nurse.0 < nurse_count I
  pub assignments : All (IsAssignment I P) row.assignments

-- a shift and rooms of the instance
pub record IsInRange (I : Draft) (a : Assignment) : Type 0 where
  pub shift : a.shift.0 < shift_count I
  pub rooms : All (λ (r : RoomNo). r.0 < room_count I) a.rooms

-- the timetable in which the nurse has these rooms in the shift too
abbrev pub with_rooms : NurseNo → Shift → List RoomNo → Timetable → Timetable
with_rooms n k rooms P = put_all (map (λ r. SetCare r k (Some n)) rooms) P

-- the timetable in which the nurse has the rooms of these assignments too
abbrev pub with_assignments : NurseNo → List Assignment → Timetable → Timetable
with_assignments n [] P = P
with_assignments n (a ∷ rest) P = with_assignments n rest (with_rooms n a.shift a.rooms P)
