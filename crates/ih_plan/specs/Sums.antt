-- Sums, counts and lists over the numbers below n.
use Rattle.std.specs.List.{list_any}
use Rattle.std.specs.Prelude.{ℕ, map, zero, suc, ◌+◌, nat_eq, Bool, true, false, List, [], ◌∷◌, ◌++◌, max, min, if◌then◌else◌}

-- f 0 + .. + f (n - 1)
unfoldable pub sum_below : ℕ → (ℕ → ℕ) → ℕ
sum_below zero f = 0
sum_below (suc n) f = sum_below n f + f n

-- 1 where it is true, and 0 where not
abbrev pub bit : Bool → ℕ
bit true = 1
bit false = 0

-- how many numbers below n pass
abbrev pub count_below : ℕ → (ℕ → Bool) → ℕ
count_below n p = sum_below n (λ i. bit (p i))

-- the numbers below n that pass, rising
unfoldable pub which_below : ℕ → (ℕ → Bool) → List ℕ
which_below zero p = []
which_below (suc n) p = if p n then which_below n p ++ n ∷ [] else which_below n p

-- n is in the list
abbrev pub is_listed : ℕ → List ℕ → Bool
is_listed n xs = list_any (nat_eq n) xs

-- the greatest number of a list, and 0 of an empty one
unfoldable pub greatest : List ℕ → ℕ
greatest [] = 0
greatest (x ∷ xs) = max x (greatest xs)

-- the least number of a list, and 0 of an empty one
unfoldable pub least : List ℕ → ℕ
least [] = 0
least (x ∷ []) = x
least (x ∷ y ∷ ys) = min x (least (y ∷ ys))

-- the least of the numbers met so far and one more, where any was met
abbrev pub lower : Bool → ℕ → ℕ → ℕ
lower true x y = min x y
lower false x y = y

-- each number of a list with its value beside it
abbrev pub tagged : {A : Type 0} → (ℕ → A) → List ℕ → List (ℕ × A)
tagged f xs = map (λ i. (i, f i)) xs
