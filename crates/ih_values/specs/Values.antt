-- Numbers and choices as JSON values.
use Rattle.std.specs.Prelude.{ℕ, ℤ, unsigned_abs, List, [], ◌∷◌, map, Option, Some, None}
use Rattle.serde_json.specs.Data.{Data, null}
use Rattle.ih_solution.specs.Solution.{number_data, list_data}

-- a number without its sign
abbrev pub amount_data : ℤ → Data
amount_data z = number_data (unsigned_abs z)

abbrev pub numbers_data : List ℕ → Data
numbers_data ns = list_data (map number_data ns)

abbrev pub amounts_data : List ℤ → Data
amounts_data zs = list_data (map amount_data zs)

-- a number and a value
abbrev pub numbered_data : ℕ → Data → Data
numbered_data n d = list_data (number_data n ∷ d ∷ [])

-- null stands for nothing
abbrev pub option_data : {A : Type 0} → (A → Data) → Option A → Data
option_data f None = null
option_data f (Some x) = f x
