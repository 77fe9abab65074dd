-- The ages of the persons, one after the other.
use Rattle.std.proofs.Common.{◌≡◌, ℕ, ◌-◌, ◌<◌, ◌≤◌, refl, arith, Bool, true, false, List, length, Option, Some, None, inl, inr}
use Rattle.std.specs.Prelude.{slice_index, slice_get, nat_lt, if◌then◌else◌}
use Rattle.std.specs.Option.{option_map_or}
use Rattle.std.proofs.lemmas.Bool.{cases_lt}
use Rattle.std.proofs.lemmas.List.{get_or_past}
use Rattle.ih_tables.specs.declared.drafts.Draft.{Draft}
use Rattle.ih_tables.specs.declared.drafts.Patient.{Patient}
use Rattle.ih_tables.specs.declared.drafts.Occupant.{Occupant}
use Rattle.ih_tables.specs.Sizes.{patient_count, person_count}
use Rattle.ih_tables.specs.Valid.{IsValid, IsPatient, IsOccupant}
use Rattle.ih_plan.specs.Persons.{person_of, patient_person, occupant_person, nobody}
use Rattle.ih_plan.proofs.Overtime.{from-all}
use Rattle.ih_roomdays.specs.declared.profiles.Profiles.{Profiles}
use Rattle.ih_roomdays.specs.Genders.{AreGenders}
use Rattle.ih_roomdays.specs.Profiles.{AreAges, AreInRange}
use Rattle.ih_plan.proofs.BillBounds.{few-persons}

-- These are the age groups of the first k persons.
pub record AreFirstAges (I : Draft) (ages : List ℕ) (k : ℕ) : Type 0 where
  pub len : length ages ≡ k
  pub each : (x : ℕ) → x < k → slice_index ages x ≡ (person_of I x).age_group

-- ---- the ranges of gender numbers and age groups

module _ (I : Draft) (valid : IsValid I) where
  -- a person that there is has an age group, and what stands for one that there isn't has the first
  age-below : (x : ℕ) → (person_of I x).age_group < 64
  unfolding person_of
  age-below x = by_test (nat_lt x (patient_count I))
    where
      few : length I.age_groups ≤ 64
      few = valid.ages.len.most

      patient : (o : Option Patient) → slice_get I.patients x ≡ o → (option_map_or patient_person o nobody).age_group < 64
      patient None e = omega arith
      patient (Some a) e = let age = (from-all (IsPatient I) I.patients x a valid.each_patient e).age in omega (arith, few)

      occupant : (o : Option Occupant) → slice_get I.occupants (x - patient_count I) ≡ o → (option_map_or occupant_person o nobody).age_group < 64
      occupant None e = omega arith
      occupant (Some a) e = let age = (from-all (IsOccupant I) I.occupants (x - patient_count I) a valid.each_occupant e).age in omega (arith, few)

      by_test : (b : Bool)
          → (if b then option_map_or patient_person (slice_get I.patients x) nobody else option_map_or occupant_person (slice_get I.occupants (x - patient_count I)) nobody).age_group < 64
      by_test true = patient (slice_get I.patients x) refl
      by_test false = occupant (slice_get I.occupants (x - patient_count I)) refl

  pub profiles-in_range : (p : Profiles) → AreGenders I p.genders.items → AreAges I p.ages.items → AreInRange (person_count I) p
  profiles-in_range p genders ages = record {
    genders_len = genders.len;
    ages_len = ages.len;
    genders = λ x. elim (cases_lt x (person_count I)) [
      | inl known ↦ let below = genders.below x known in let few = few-persons I valid in omega arith
      | inr past ↦ let none = get_or_past p.genders.items x 0 (let e = genders.len in omega arith) in omega arith
    ];
    ages = λ x. elim (cases_lt x (person_count I)) [
      | inl known ↦ let own = ages.each x known in let below = age-below x in omega arith
      | inr past ↦ let none = get_or_past p.ages.items x 0 (let e = ages.len in omega arith) in omega arith
    ];
  }
