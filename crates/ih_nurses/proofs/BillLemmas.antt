-- The bills of nursing are the parts of the cells, and their numbers are small.
use Rattle.std.proofs.Common.{◌≡◌, ℕ, refl, map, pos}
use Rattle.ih_tables.specs.declared.drafts.Draft.{Draft}
use Rattle.ih_tables.specs.declared.ids.NurseNo.{NurseNo}
use Rattle.ih_tables.specs.declared.ids.PersonNo.{PersonNo}
use Rattle.ih_tables.specs.declared.ids.Shift.{Shift}
use Rattle.ih_tables.specs.declared.bills.Bill.{Bill}
use Rattle.ih_tables.specs.declared.cells.Cell.TheVariants.{NurseShift, Care}
use Rattle.ih_tables.specs.Works.{max_load}
use Rattle.ih_plan.specs.Timetable.{Timetable}
use Rattle.ih_plan.specs.Presence.{room_of, shifts_of}
use Rattle.ih_plan.specs.Costs.{overload, load_of, nurse_for, distinct_nurses}
use Rattle.ih_plan.specs.BillOf.{as_bill}
use Rattle.ih_plan.specs.Cells.{part_at, part_of, content_of}
use Rattle.ih_plan.proofs.ListedBelow.{tagged-values}
use Rattle.ih_nurses.specs.Bills.{nursing_bill}

abbrev pub nursing : ℕ → ℕ → ℕ → ℕ → ℕ → Bill
nursing off uncovered missing seen over = nursing_bill (pos off) (pos uncovered) (pos missing) (pos seen) (pos over)

pub nurse-part : (I : Draft) (P : Timetable) (n : NurseNo) (k : Shift) (over : ℕ) → over ≡ overload (max_load I n.0 k.0) (load_of I P n.0 k.0)
    → nursing 0 0 0 0 over ≡ as_bill (part_at I P (NurseShift n k))
unfolding part_of content_of
nurse-part I P n k over e = rw e refl

pub care-part : (I : Draft) (P : Timetable) (x : PersonNo) (seen : ℕ) → seen ≡ distinct_nurses I (map (nurse_for P (room_of I P x.0)) (shifts_of I P x.0))
    → nursing 0 0 0 seen 0 ≡ as_bill (part_at I P (Care x))
unfolding part_of content_of
care-part I P x seen e = rw (tagged-values (nurse_for P (room_of I P x.0)) (shifts_of I P x.0), e) refl
