-- The first least of a list of writes.
use Rattle.std.specs.Prelude.{◌≡◌, ℕ, ◌≤◌, ◌⊎◌, ◌<ℤ◌, ℤ, List, Some, slice_get}
use Rattle.ih_plan.specs.declared.moves.Write.{Write}

-- a value at a place comes before another: it is less, or as much at no later place
abbrev pub IsBefore : ℤ → ℕ → ℤ → ℕ → Type 0
IsBefore x p y k = (x <ℤ y) ⊎ ((x ≡ y) × (p ≤ k))

-- Write w, at a place of a list, is the first least of those at some places: it is one of them, and comes before each.
pub record IsFirstLeast (value : Write → ℤ) (ws : List Write) (places : ℕ → Type 0) (place : ℕ) (w : Write)
    : Type 0 where
  pub there : slice_get ws place ≡ Some w
  pub among : places place
  pub first : (k : ℕ) (x : Write) → places k → slice_get ws k ≡ Some x → IsBefore (value w) place (value x) k

-- all places
abbrev pub AnyPlace : ℕ → Type 0
AnyPlace k = Unit {0}

-- w is the first least of the whole list
abbrev pub IsFirstLeastOf : (Write → ℤ) → List Write → Write → Type 0
IsFirstLeastOf value ws w = (place : ℕ) × IsFirstLeast value ws AnyPlace place w
