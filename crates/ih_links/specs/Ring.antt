-- How vectors of links stand for lists: each list is a ring with the sentinel of its head.
use Rattle.std.specs.Prelude.{◌≡◌, ℕ, zero, suc, ◌+◌, ◌<◌, ◌≤◌, ◌==◌, nat_lt, if◌then◌else◌, List, [], ◌∷◌, length, map, Option, Some, None, slice_index, slice_index_or}
use Rattle.std.specs.List.{range_with_len}
use Rattle.ih_links.specs.Lists.{has, is_at, IsOnce}

-- the n numbers from a on
abbrev pub walk : (ℕ → ℕ) → ℕ → ℕ → List ℕ
walk f zero a = []
walk f (suc n) a = a ∷ walk f n (f a)

-- the head that a home says, where numbers are at most so great: the greatest says none
abbrev pub home_of : ℕ → ℕ → Option ℕ
home_of most h = if h == most then None else Some h

-- the heads of all nodes
abbrev pub homes_of : ℕ → List ℕ → List (Option ℕ)
homes_of most raw = map (home_of most) raw

-- the lists that the links give
abbrev pub lists_of : List ℕ → List (Option ℕ) → List ℕ → List (List ℕ)
lists_of next home len =
    map (λ h. walk (slice_index next) (slice_index len h) (slice_index next (length home + h)))
    (range_with_len 0 (length len))

-- xs stand between a and b, forwards and backwards
abbrev pub IsPath : (ℕ → ℕ) → (ℕ → ℕ) → ℕ → List ℕ → ℕ → Type 0
IsPath f g a [] b = (f a ≡ b) × (g b ≡ a)
IsPath f g a (x ∷ xs) b = (f a ≡ x) × ((g x ≡ a) × IsPath f g x xs b)

-- the node at a place: the places below n are the nodes', those from n on are the sentinels'
abbrev pub node_in : ℕ → ℕ → Option ℕ
node_in n place = if nat_lt place n then Some place else None

-- The links are those of the lists: nodes and sentinels have one place each, each list is a ring through its head's
-- sentinel, and each node's home is the head of its list. No place is above the greatest number.
pub record Tied (most : ℕ) (next prev : List ℕ) (home : List (Option ℕ)) (len : List ℕ) (lists : List (List ℕ)) : Type 0 where
  pub nexts : length next ≡ length home + length len
  pub prevs : length prev ≡ length home + length len
  pub count : length lists ≡ length len
  pub path : (h : ℕ) → h < length len
      → IsPath (slice_index next) (slice_index prev) (length home + h) (slice_index_or lists h []) (length home + h)
  pub lens : (h : ℕ) → h < length len → slice_index len h ≡ length (slice_index_or lists h [])
  pub homes : (h x : ℕ) → has x (slice_index_or lists h []) ≡ is_at h (slice_index_or home x None)
  pub once : (h : ℕ) → IsOnce (slice_index_or lists h [])
  pub few : length home + length len ≤ most + 1

-- The links are those of the lists that they give.
abbrev pub IsRinged : (most : ℕ) (next prev : List ℕ) (home : List (Option ℕ)) (len : List ℕ) → Type 0
IsRinged most next prev home len = Tied most next prev home len (lists_of next home len)
