-- The first person of a gender stands for it.
use Rattle.std.proofs.Common.{◌≡◌, ℕ, ◌<◌, true, false, List, length}
use Rattle.std.specs.Prelude.{slice_index}
use Rattle.std.specs.Str.{bytes_eq}
use Rattle.ih_tables.specs.declared.drafts.Draft.{Draft}
use Rattle.ih_plan.specs.Persons.{person_of}

abbrev pub gender_of : Draft → ℕ → List ℕ
gender_of I x = (person_of I x).gender

-- Person n is the first of x's gender.
pub record IsFirst (I : Draft) (x n : ℕ) : Type 0 where
  pub same : bytes_eq (gender_of I x) (gender_of I n) ≡ true
  pub first : (y : ℕ) → y < n → bytes_eq (gender_of I x) (gender_of I y) ≡ false

-- The numbers of the first k persons are those of the first persons of their genders.
pub record AreFirst (I : Draft) (numbers : List ℕ) (k : ℕ) : Type 0 where
  pub len : length numbers ≡ k
  pub each : (x : ℕ) → x < k → IsFirst I x (slice_index numbers x)
