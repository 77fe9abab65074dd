-- A patient's stay once an attempt is made.
use Rattle.std.specs.Prelude.{◌<◌}
use Rattle.ih_tables.specs.declared.drafts.Draft.{Draft}
use Rattle.ih_tables.specs.Sizes.{patient_count}
use Rattle.ih_plan.specs.Timetable.{IsPlacement}
use Rattle.ih_proposals.specs.declared.new_stays.NewStay.{NewStay}

-- Both are in range.
pub record IsNewStay (I : Draft) (s : NewStay) : Type 0 where
  pub patient : s.patient.0 < patient_count I
  pub placement : IsPlacement I s.at
