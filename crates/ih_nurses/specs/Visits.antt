-- What is the same in every shift of a patient's placement.
use Rattle.std.specs.Prelude.{◌≡◌, ◌<◌, ℕ, Bool, true, false, Option, Some, None, option_map}
use Rattle.ih_tables.specs.declared.drafts.Draft.{Draft}
use Rattle.ih_tables.specs.declared.ids.PatientNo.{PatientNo}
use Rattle.ih_tables.specs.Sizes.{patient_count}
use Rattle.ih_plan.specs.declared.moves.Placement.{Placement}
use Rattle.ih_plan.specs.Timetable.{IsPlacement}
use Rattle.ih_plan.specs.Persons.{person_of}
use Rattle.ih_plan.specs.Presence.{covers, placed_at}
use Rattle.ih_nurses.specs.declared.visits.Visit.{Visit}
use Rattle.ih_nurses.specs.declared.visits.Before.{Before}
use Rattle.ih_nurses.specs.declared.visits.Before.TheVariants.{Apart, Same, Other}

-- a stay of patient p, where there is one, has day d
abbrev pub has_day : Draft → ℕ → Option Placement → ℕ → Bool
has_day I p None d = false
has_day I p (Some at) d = covers at.day.0 (person_of I p).length_of_stay d

-- patient p's present stay lies so to a placement: no day of the placement is one of the stay's; its room and its first
-- day are the placement's; it is that one
abbrev pub IsBefore : Draft → ℕ → Option Placement → Placement → Before → Type 0
IsBefore I p old at Apart = (d : ℕ) → has_day I p (Some at) d ≡ true → has_day I p old d ≡ false
IsBefore I p old at Same = option_map placed_at old ≡ Some (placed_at at)
IsBefore I p old at (Other stay) = old ≡ Some stay

-- whose placement it is, and which one
abbrev pub patient_of : Visit → PatientNo
patient_of visit = visit.patient

abbrev pub placement_of : Visit → Placement
placement_of visit = visit.at

-- The visit is one of a patient and a placement of the instance: it has the patient's workloads and skills, and the
-- patient's present stay lies so to the placement.
pub record IsVisitOf (I : Draft) (old : Option Placement) (visit : Visit) : Type 0 where
  pub patient : visit.patient.0 < patient_count I
  pub placement : IsPlacement I visit.at
  pub workload_is : visit.workload.now ≡ (person_of I visit.patient.0).workload
  pub skill_is : visit.skill.now ≡ (person_of I visit.patient.0).skill
  pub before_is : IsBefore I visit.patient.0 old visit.at visit.before
