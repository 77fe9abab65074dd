-- Lists of numbered nodes, one for each head.
use Rattle.std.specs.Prelude.{◌≡◌, ◌<◌, ℕ, Bool, true, false, ◌||◌, ◌==◌, if◌then◌else◌, List, [], ◌∷◌, ◌++◌, Option, Some, None, slice_index_or}

-- The list of each head, and how many nodes there are.
pub record LinksState : Type 0 where
  pub lists : List (List ℕ)
  pub nodes : ℕ

-- the list of a head
abbrev pub list_of : LinksState → ℕ → List ℕ
list_of v h = slice_index_or v.lists h []

-- x is in the list
abbrev pub has : ℕ → List ℕ → Bool
has x [] = false
has x (y ∷ ys) = (y == x) || has x ys

-- the list without x
abbrev pub without : ℕ → List ℕ → List ℕ
without x [] = []
without x (y ∷ ys) = if y == x then without x ys else y ∷ without x ys

-- the list, and x too where it is there
abbrev pub with_if : Bool → ℕ → List ℕ → List ℕ
with_if true x xs = xs ++ x ∷ []
with_if false x xs = xs

-- no number stands twice in the list
abbrev pub IsOnce : List ℕ → Type 0
IsOnce [] = Unit {0}
IsOnce (x ∷ xs) = (has x xs ≡ false) × IsOnce xs

-- The list has numbers below n, each once at most.
pub record AreNodes (n : ℕ) (xs : List ℕ) : Type 0 where
  pub below : (x : ℕ) → has x xs ≡ true → x < n
  pub once : IsOnce xs

-- the first of the list
abbrev pub first_of : List ℕ → Option ℕ
first_of [] = None
first_of (x ∷ xs) = Some x

-- what stands behind x in the list
abbrev pub following : ℕ → List ℕ → Option ℕ
following x [] = None
following x (y ∷ ys) = if y == x then first_of ys else following x ys

-- the home of a node is head h
abbrev pub is_at : ℕ → Option ℕ → Bool
is_at h None = false
is_at h (Some g) = g == h
