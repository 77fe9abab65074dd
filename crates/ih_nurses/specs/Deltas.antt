-- Numbers of the parts of a room's shift and of its nurse's, and what a placement of a patient changes in them.
use Rattle.std.specs.Prelude.{ℕ, ℤ, pos, ◌-ℤ◌, Some, None}
use Rattle.ih_tables.specs.declared.drafts.Draft.{Draft}
use Rattle.ih_tables.specs.declared.cells.Cell.TheVariants.{RoomShift, NurseShift}
use Rattle.ih_tables.specs.declared.ids.PatientNo.{PatientNo}
use Rattle.ih_tables.specs.declared.ids.RoomNo.{RoomNo}
use Rattle.ih_tables.specs.declared.ids.Shift.{Shift}
use Rattle.ih_tables.specs.declared.ids.NurseNo.{NurseNo}
use Rattle.ih_tables.specs.BillNumbers.{nurse_presence, uncovered_room, nurse_skill, excess_workload}
use Rattle.ih_plan.specs.declared.moves.Placement.{Placement}
use Rattle.ih_plan.specs.declared.moves.Write.TheVariants.{SetStay}
use Rattle.ih_plan.specs.Timetable.{Timetable, care_of}
use Rattle.ih_plan.specs.Writes.{put}
use Rattle.ih_plan.specs.BillOf.{cost_count, rule_count}
use Rattle.ih_plan.specs.Cells.{part_at}
use Rattle.ih_nurses.specs.Choice.{excess_of}

module _ (I : Draft) (Q : Timetable) where
  -- 1 where room r has a nurse in shift k who doesn't work then, and 0 where not
  abbrev pub off_in : RoomNo → Shift → ℕ
  off_in r k = rule_count nurse_presence (part_at I Q (RoomShift r k))

  -- 1 where room r is occupied in shift k and has no nurse, and 0 where not
  abbrev pub uncovered_in : RoomNo → Shift → ℕ
  uncovered_in r k = rule_count uncovered_room (part_at I Q (RoomShift r k))

  -- the skill above its nurse's that the persons in room r require in shift k
  abbrev pub missing_in : RoomNo → Shift → ℕ
  missing_in r k = cost_count nurse_skill (part_at I Q (RoomShift r k))

  -- the workload above the maximum of nurse n in shift k
  abbrev pub overload_in : NurseNo → Shift → ℕ
  overload_in n k = cost_count excess_workload (part_at I Q (NurseShift n k))

  -- the workload above the maximum of the nurse of room r in shift k, where it has one
  abbrev pub excess_in : RoomNo → Shift → ℕ
  excess_in r k = excess_of I Q k.0 (care_of Q r.0 k.0)

-- by how much a number increases with a placement
abbrev pub increase_by_placement : Timetable → PatientNo → Placement → (Timetable → ℕ) → ℤ
increase_by_placement P p at f = pos (f (put (SetStay p (Some at)) P)) -ℤ pos (f (put (SetStay p None) P))
