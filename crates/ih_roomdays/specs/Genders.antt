-- Genders as numbers.
use Rattle.std.specs.Prelude.{◌≡◌, ℕ, ◌<◌, ◌==◌, List, length, slice_index}
use Rattle.std.specs.Str.{bytes_eq}
use Rattle.ih_tables.specs.declared.drafts.Draft.{Draft}
use Rattle.ih_tables.specs.Sizes.{person_count}
use Rattle.ih_plan.specs.Persons.{person_of}

-- Each person has a number, which is that of a person, and two persons have one number just where they have one gender.
pub record AreGenders (I : Draft) (numbers : List ℕ) : Type 0 where
  pub len : length numbers ≡ person_count I
  pub below : (x : ℕ) → x < person_count I → slice_index numbers x < person_count I
  pub each : (x y : ℕ) → x < person_count I → y < person_count I
      → (slice_index numbers x == slice_index numbers y) ≡ bytes_eq (person_of I x).gender (person_of I y).gender
