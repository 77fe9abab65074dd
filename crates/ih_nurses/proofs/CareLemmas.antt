-- A choice of nurse leaves who is where.
use Rattle.std.proofs.Common.{◌≡◌, ℕ, refl, Option}
use Rattle.ih_tables.specs.declared.drafts.Draft.{Draft}
use Rattle.ih_tables.specs.declared.ids.RoomNo.{RoomNo}
use Rattle.ih_tables.specs.declared.ids.Shift.{Shift}
use Rattle.ih_tables.specs.declared.ids.NurseNo.{NurseNo}
use Rattle.ih_plan.specs.declared.moves.Write.TheVariants.{SetCare}
use Rattle.ih_plan.specs.Timetable.{Timetable}
use Rattle.ih_plan.specs.Writes.{put}
use Rattle.ih_plan.specs.Presence.{admission_of, is_present}

module _ (I : Draft) (P : Timetable) (r : RoomNo) (k : Shift) (n : Option NurseNo) where
  pub present-kept : (s d x : ℕ) → is_present I (put (SetCare r k n) P) s d x ≡ is_present I P s d x
  unfolding admission_of
  present-kept s d x = refl
