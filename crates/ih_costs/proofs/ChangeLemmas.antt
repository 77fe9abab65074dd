-- What a patient's stay costs by itself.
use Rattle.std.proofs.Common.{◌≡◌, refl, Some}
use Rattle.std.specs.Prelude.{slice_get}
use Rattle.ih_tables.specs.declared.drafts.Draft.{Draft}
use Rattle.ih_tables.specs.declared.drafts.Patient.{Patient}
use Rattle.ih_tables.specs.declared.ids.PatientNo.{PatientNo}
use Rattle.ih_tables.specs.declared.cells.Cell.TheVariants.{Stay}
use Rattle.ih_plan.specs.Timetable.{Timetable, stay_of}
use Rattle.ih_plan.specs.Cells.{part_of, part_at, content_of}
use Rattle.ih_costs.specs.StayPart.{stay_part}

pub stay-is : (I : Draft) (P : Timetable) (q : PatientNo) (a : Patient) → slice_get I.patients q.0 ≡ Some a → part_at I P (Stay q) ≡ stay_part a (stay_of P q.0)
unfolding part_of content_of
stay-is I P q a e = rw e refl
