-- What another choice of nurse for a room's shift changes: numbers of the parts of the cells that it touches.
use Rattle.std.specs.Prelude.{ℕ, ℤ, pos, ◌-ℤ◌, List, Option, Some, None, sum_by}
use Rattle.ih_tables.specs.declared.drafts.Draft.{Draft}
use Rattle.ih_tables.specs.declared.cells.Cell.TheVariants.{NurseShift, Care}
use Rattle.ih_tables.specs.declared.ids.RoomNo.{RoomNo}
use Rattle.ih_tables.specs.declared.ids.Shift.{Shift}
use Rattle.ih_tables.specs.declared.ids.NurseNo.{NurseNo}
use Rattle.ih_tables.specs.BillNumbers.{continuity_of_care, excess_workload}
use Rattle.ih_plan.specs.declared.moves.Write.TheVariants.{SetCare}
use Rattle.ih_plan.specs.Timetable.{Timetable}
use Rattle.ih_plan.specs.Writes.{put}
use Rattle.ih_plan.specs.BillOf.{cost_count}
use Rattle.ih_plan.specs.Cells.{part_at}

module _ (I : Draft) (Q : Timetable) where
  -- the workload above its maximum that a nurse has in shift k, and nothing for no nurse
  abbrev pub excess_of : ℕ → Option ℕ → ℕ
  excess_of k None = 0
  excess_of k (Some n) = cost_count excess_workload (part_at I Q (NurseShift (record { 0 = n }) (record { 0 = k })))

  -- the distinct nurses of each of these persons, added up
  abbrev pub seen_by : List ℕ → ℕ
  seen_by xs = sum_by (λ x. cost_count continuity_of_care (part_at I Q (Care (record { 0 = x })))) xs

-- by how much a number increases with another choice of nurse, or none
abbrev pub increase_by_choice : Timetable → RoomNo → Shift → Option NurseNo → (Timetable → ℕ) → ℤ
increase_by_choice P r k new f = pos (f (put (SetCare r k new) P)) -ℤ pos (f P)
