-- Persons: the patients first, then the occupants, who share what the rules ask of both.
use Rattle.std.specs.Prelude.{ℕ, ◌-◌, List, [], nat_lt, if◌then◌else◌, slice_get}
use Rattle.std.specs.Option.{option_map_or}
use Rattle.ih_tables.specs.declared.drafts.Draft.{Draft}
use Rattle.ih_tables.specs.declared.drafts.Patient.{Patient}
use Rattle.ih_tables.specs.declared.drafts.Occupant.{Occupant}
use Rattle.ih_tables.specs.Sizes.{patient_count}

-- What the rules ask of a patient and of an occupant alike.
pub record Person : Type 0 where
  pub gender : List ℕ
  pub age_group : ℕ
  pub length_of_stay : ℕ
  pub workload : List ℕ
  pub skill : List ℕ

-- the person of whom this is asked
abbrev pub person_with : List ℕ → ℕ → ℕ → List ℕ → List ℕ → Person
person_with gender age_group stay workload skill = record {
  gender = gender;
  age_group = age_group;
  length_of_stay = stay;
  workload = workload;
  skill = skill;
}

-- a patient, and an occupant, as a person
abbrev pub patient_person : Patient → Person
patient_person p = person_with p.gender p.age_group p.length_of_stay p.workload_produced p.skill_level_required

abbrev pub occupant_person : Occupant → Person
occupant_person o = person_with o.gender o.age_group o.length_of_stay o.workload_produced o.skill_level_required

-- what stands for a number that is no person's
abbrev pub nobody : Person
nobody = person_with [] 0 0 [] []

-- person x: the patient of that number, or the occupant whose number is x less the number of patients
unfoldable pub person_of : Draft → ℕ → Person
person_of I x =
    if nat_lt x (patient_count I)
    then option_map_or patient_person (slice_get I.patients x) nobody
    else option_map_or occupant_person (slice_get I.occupants (x - patient_count I)) nobody
