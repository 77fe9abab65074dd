-- The summary of the persons in a room on a day: sums of their gender numbers, and bits of their age groups.
use Rattle.std.specs.Prelude.{◌≡◌, ℕ, ◌-◌, ◌*◌, ◌<◌, ◌≤◌, ◌==◌, List, length, min}
use Rattle.std.specs.Int.{bit_at}
use Rattle.std.specs.List.{count_by, sum_by}
use Rattle.ih_roomdays.specs.declared.occupancies.Occupancy.{Occupancy}
use Rattle.ih_roomdays.specs.declared.occupancies.Crowd.{Crowd}
use Rattle.ih_roomdays.specs.declared.profiles.Profiles.{Profiles}
use Rattle.ih_roomdays.specs.Profiles.{gender_number, age_number, most_persons}

-- how many of the persons xs are in age group a
abbrev pub of_age : Profiles → ℕ → List ℕ → ℕ
of_age p a xs = count_by (λ x. age_number p x == a) xs

-- This is so of the persons xs: how many they are, the sums of their gender numbers and of the squares of these, and
-- the bit of an age group is 1 where one of them or more is in it.
pub record IsOccupancy (p : Profiles) (xs : List ℕ) (c : Occupancy) : Type 0 where
  pub count : c.count ≡ length xs
  pub genders : c.genders ≡ sum_by (gender_number p) xs
  pub squares : c.squares ≡ sum_by (λ x. gender_number p x * gender_number p x) xs
  pub ages : (a : ℕ) → a < 64 → bit_at c.ages a ≡ min 1 (of_age p a xs)

-- In the other word the bit is 1 where two of them or more are in the age group.
pub record IsCrowd (p : Profiles) (xs : List ℕ) (c : Crowd) : Type 0 where
  pub occupancy : IsOccupancy p xs c.occupancy
  pub twice : (a : ℕ) → a < 64 → bit_at c.twice a ≡ min 1 (of_age p a xs - 1)

-- The sums are those of no more persons than an instance has.
pub record IsSmall (c : Occupancy) : Type 0 where
  pub count : c.count ≤ most_persons
  pub genders : c.genders ≤ most_persons * most_persons
  pub squares : c.squares ≤ most_persons * most_persons * most_persons

-- nobody
abbrev pub nobody : Crowd
nobody = record { occupancy = record { ages = 0; squares = 0; genders = 0; count = 0 }; twice = 0 }
