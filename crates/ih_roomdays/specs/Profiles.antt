-- The profiles of persons: genders as numbers, and age groups.
use Rattle.std.specs.Prelude.{◌≡◌, ℕ, ◌<◌, true, List, length, slice_index}
use Rattle.ih_tables.specs.declared.drafts.Draft.{Draft}
use Rattle.ih_tables.specs.Sizes.{person_count}
use Rattle.ih_plan.specs.Persons.{person_of}
use Rattle.ih_links.specs.Lists.{has}
use Rattle.ih_roomdays.specs.declared.profiles.Profile.{Profile}
use Rattle.ih_roomdays.specs.declared.profiles.Profiles.{Profiles}
use Rattle.ih_roomdays.specs.Genders.{AreGenders}

-- Each person's number is that of its age group.
pub record AreAges (I : Draft) (ages : List ℕ) : Type 0 where
  pub len : length ages ≡ person_count I
  pub each : (x : ℕ) → x < person_count I → slice_index ages x ≡ (person_of I x).age_group

-- the most persons that an instance has: 2048 patients and 512 occupants
abbrev pub most_persons : ℕ
most_persons = 2560

-- the number of person x's gender
abbrev pub gender_number : Profiles → ℕ → ℕ
gender_number p x = slice_index p.genders.items x

-- the number of person x's age group
abbrev pub age_number : Profiles → ℕ → ℕ
age_number p x = slice_index p.ages.items x

-- both
abbrev pub profile_of : Profiles → ℕ → Profile
profile_of p x = record { gender = gender_number p x; age = age_number p x }

-- So many persons have profiles: each has a gender number below the most persons' count, and one of 64 age groups.
pub record AreInRange (n : ℕ) (p : Profiles) : Type 0 where
  pub genders_len : length p.genders.items ≡ n
  pub ages_len : length p.ages.items ≡ n
  pub genders : (x : ℕ) → gender_number p x < most_persons
  pub ages : (x : ℕ) → age_number p x < 64

-- The genders and the ages are those of the instance's persons.
pub record AreProfiles (I : Draft) (p : Profiles) : Type 0 where
  pub genders : AreGenders I p.genders.items
  pub ages : AreAges I p.ages.items
  pub in_range : AreInRange (person_count I) p

-- these are persons of the instance
abbrev pub ArePersons : Draft → List ℕ → Type 0
ArePersons I xs = (x : ℕ) → has x xs ≡ true → x < person_count I
