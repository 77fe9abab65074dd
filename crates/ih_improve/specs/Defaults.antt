-- The settings of a search that come from the weights of its instance where they aren't given.
use Rattle.std.specs.Prelude.{◌≡◌, ℕ, ◌+◌, ◌*◌, ◌/◌, ◌≤◌, ◌&&◌, max, nat_le, nat_lt, Bool, true, List, All, Contains, count_by, map, unsigned_abs}
use Rattle.ih_tables.specs.declared.drafts.Draft.{Draft}
use Rattle.ih_improve.specs.declared.defaults.Defaults.{Defaults}

-- the weights of the costs, of which none is below 0
abbrev pub weights_of : Draft → List ℕ
weights_of I = map unsigned_abs I.weights.w

-- how many of the weights are above 0
abbrev pub count_above : List ℕ → ℕ
count_above ws = count_by (λ w. nat_lt 0 w) ws

-- how many of them are at most so large
abbrev pub count_up_to : List ℕ → ℕ → ℕ
count_up_to ws most = count_by (λ w. nat_lt 0 w && nat_le w most) ws

-- at least half of the weights above 0 are at most so large
abbrev pub has_half : List ℕ → ℕ → Bool
has_half ws most = nat_le (count_above ws) (2 * count_up_to ws most)

-- m is the least weight that at least half of the weights above 0 don't exceed: 0 only where none is above 0
pub record IsMiddle (ws : List ℕ) (m : ℕ) : Type 0 where
  pub weight : Contains ws m
  pub half : has_half ws m ≡ true
  pub least : All (λ w. has_half ws w ≡ true → m ≤ w) ws

-- g is a weight, and none is greater
pub record IsGreatest (ws : List ℕ) (g : ℕ) : Type 0 where
  pub weight : Contains ws g
  pub greatest : All (λ w. w ≤ g) ws

-- The heat falls from twice the middle weight to a tenth of it, rounded. A broken hard rule weighs twice the greatest
-- weight, but at least 1000; a change ten times the middle weight.
abbrev pub defaults_by : ℕ → ℕ → Defaults
defaults_by middle greatest = record {
  hot = 2 * middle;
  cold = (middle + 5) / 10;
  hard = max (2 * greatest) 1000;
  keep = 10 * middle;
}

-- these are the defaults by the weights of an instance
pub record AreDefaults (I : Draft) (d : Defaults) : Type 0 where
  pub middle : ℕ
  pub greatest : ℕ
  pub is_middle : IsMiddle (weights_of I) middle
  pub is_greatest : IsGreatest (weights_of I) greatest
  pub are : d ≡ defaults_by middle greatest
