-- Surgeries by theatres and by surgeons, which are summed in the same way.
use Rattle.std.specs.Prelude.{◌≡◌, ◌<◌, ◌≤◌, ◌-◌, ℕ, Bool, ◌&&◌, List, All, length}
use Rattle.ih_tables.specs.declared.drafts.Draft.{Draft}
use Rattle.ih_tables.specs.Sizes.{patient_count, theatre_count, surgeon_count}
use Rattle.ih_plan.specs.Timetable.{Timetable, stay_of}
use Rattle.ih_plan.specs.BillOf.{theatre_overtime, surgeon_overtime}
use Rattle.ih_plan.specs.Costs.{operated, operated_by, operated_in, admitted_on, theatre_of, surgeon_of, is_number, minutes, theatre_availability, surgeon_maximum}
use Rattle.ih_plan.specs.Sums.{sum_below, which_below}
use Rattle.ih_validate.specs.declared.surgery.ResourceKind.{ResourceKind}
use Rattle.ih_validate.specs.declared.surgery.ResourceKind.TheVariants.{Theatres, Surgeons}
use Rattle.ih_validate.specs.declared.surgery.Resource.{Resource}
use Rattle.ih_validate.specs.declared.surgery.Resource.TheVariants.{OfTheatre, OfSurgeon}

-- how many there are
abbrev pub count_of : Draft → ResourceKind → ℕ
count_of I Theatres = theatre_count I
count_of I Surgeons = surgeon_count I

-- the one of a number
abbrev pub one_of : ResourceKind → ℕ → Resource
one_of Theatres t = OfTheatre (record { 0 = t })
one_of Surgeons s = OfSurgeon (record { 0 = s })

-- it is one of the instance's
abbrev pub IsResourceOf : Draft → Resource → Type 0
IsResourceOf I (OfTheatre t) = t.0 < theatre_count I
IsResourceOf I (OfSurgeon s) = s.0 < surgeon_count I

-- patient p has surgery there on some day, or is the surgeon's, admitted or not
abbrev pub is_patient_of : Draft → Timetable → Resource → ℕ → Bool
is_patient_of I P (OfTheatre t) p = is_number (theatre_of P p) t.0
is_patient_of I P (OfSurgeon s) p = is_number (surgeon_of I p) s.0

-- these patients, rising
abbrev pub patients_of : Draft → Timetable → Resource → List ℕ
patients_of I P w = which_below (patient_count I) (is_patient_of I P w)

-- patient p has surgery there, or by the surgeon, on day d
abbrev pub has_surgery : Draft → Timetable → Resource → ℕ → ℕ → Bool
has_surgery I P (OfTheatre t) d p = operated_in t.0 d (stay_of P p)
has_surgery I P (OfSurgeon s) d p = is_number (surgeon_of I p) s.0 && admitted_on d (stay_of P p)

-- these patients, rising
abbrev pub operated_on : Draft → Timetable → Resource → ℕ → List ℕ
operated_on I P (OfTheatre t) d = operated I P t.0 d
operated_on I P (OfSurgeon s) d = operated_by I P s.0 d

-- ps are these patients
pub record AreOperated (I : Draft) (P : Timetable) (w : Resource) (d : ℕ) (ps : List ℕ) : Type 0 where
  pub these : ps ≡ operated_on I P w d
  pub patients : All (λ p. p < patient_count I) ps
  pub few : length ps ≤ 2560

-- the minutes of surgery that there may be on day d
abbrev pub limit_of : Draft → Resource → ℕ → ℕ
limit_of I (OfTheatre t) d = theatre_availability I t.0 d
limit_of I (OfSurgeon s) d = surgeon_maximum I s.0 d

-- the minutes of surgery above the limit of each day
unfoldable pub overtime_of : Draft → Timetable → Resource → ℕ
overtime_of I P w = sum_below I.days (λ d. minutes I (operated_on I P w d) - limit_of I w d)

-- the minutes of surgery above the limit of each day, of all theatres or of all surgeons
abbrev pub overtime : Draft → Timetable → ResourceKind → ℕ
overtime I P Theatres = theatre_overtime I P
overtime I P Surgeons = surgeon_overtime I P
