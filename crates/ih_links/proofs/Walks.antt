-- Walking a list from its first node to its last, for loops over `first` and `next`: what is left at each node, what
-- holds of those that were told, and what follows the i-th.
use Rattle.std.proofs.Common.{◌≡◌, ℕ, zero, suc, ◌<◌, ◌≤◌, refl, arith, sym, ap, subst, ◌∙◌, true, false, List, [], ◌∷◌, length, length-append, drop, get_or, ◌++◌, inl, inr, Option, Some, None}
use Rattle.std.specs.Prelude.{IfSome, ◌==◌, if◌then◌else◌}
use Rattle.std.proofs.lemmas.Bool.{cases_eq, eq-eqb, ne_eqb}
use Rattle.std.proofs.lemmas.List.{append_assoc, append-nil}
use Rattle.ih_links.specs.Lists.{has, IsOnce, AreNodes, following, first_of}
use Rattle.ih_links.proofs.Members.{apart, has-here, has-there, has-cases, length-once}
use Rattle.ih_links.proofs.Paths.{following-here, following-there}

-- the list from a node on, and nothing without one
abbrev pub rest_from : Option ℕ → List ℕ → List ℕ
rest_from None xs = []
rest_from (Some x) [] = []
rest_from (Some x) (y ∷ ys) = if y == x then y ∷ ys else rest_from (Some x) ys

rest-here : (x y : ℕ) (ys : List ℕ) → y ≡ x → rest_from (Some x) (y ∷ ys) ≡ y ∷ ys
rest-here x y ys e = let t = eq-eqb y x e in rw t refl

rest-there : (x y : ℕ) (ys : List ℕ) → (y ≡ x → ⊥) → rest_from (Some x) (y ∷ ys) ≡ rest_from (Some x) ys
rest-there x y ys n = let t = ne_eqb y x n in rw t refl

-- The node of a walk, where it is at one, is in the list.
abbrev pub IsAt : Option ℕ → List ℕ → Type 0
IsAt at xs = IfSome at (λ x. has x xs ≡ true)

-- a walk begins at the first node, and has the whole list before it
pub starts : (xs : List ℕ) → IsAt (first_of xs) xs
starts [] = tt
starts (x ∷ xs) = has-here x x xs refl

pub rest-first : (xs : List ℕ) → rest_from (first_of xs) xs ≡ xs
rest-first [] = refl
rest-first (x ∷ xs) = rest-here x x xs refl

-- it goes on to a node of the list
pub goes-on : (x : ℕ) (xs : List ℕ) → has x xs ≡ true → IsAt (following x xs) xs
goes-on x [] m = tt
goes-on x (y ∷ ys) m = elim (cases_eq y x) [
  | inl e ↦ rw (following-here x y ys e) (wider (first_of ys) (starts ys))
  | inr n ↦ rw (following-there x y ys n) (wider (following x ys) (goes-on x ys (inside n)))
]
  where
    wider : (at : Option ℕ) → IsAt at ys → IsAt at (y ∷ ys)
    wider None h = tt
    wider (Some z) h = has-there z y ys h

    inside : (y ≡ x → ⊥) → has x ys ≡ true
    inside n = elim (has-cases x y ys m) [ inl e ↦ absurd (n e) | inr h ↦ h ]

skipped : (at : Option ℕ) (y : ℕ) (ys : List ℕ) → IsAt at ys → has y ys ≡ false → rest_from at (y ∷ ys) ≡ rest_from at ys
skipped None y ys h n = refl
skipped (Some x) y ys h n = rest-there x y ys (λ e. apart x y ys h n (sym e))

-- a step takes the node off what is left, so the walk ends after as many steps as the list has nodes
pub rest-step : (x : ℕ) (xs : List ℕ) → IsOnce xs → has x xs ≡ true → rest_from (Some x) xs ≡ x ∷ rest_from (following x xs) xs
rest-step x [] o m = absurd (cc)
rest-step x (y ∷ ys) o m = elim (cases_eq y x) [
  | inl e ↦
      rest-here x y ys e ∙ (ap (λ z. z ∷ ys) e ∙ ap (λ zs. x ∷ zs) (sym (
      ap (λ at. rest_from at (y ∷ ys)) (following-here x y ys e) ∙ (skipped (first_of ys) y ys (starts ys) o.0 ∙ rest-first ys))))
  | inr n ↦ elim (has-cases x y ys m) [
    | inl e ↦ absurd (n e)
    | inr h ↦
        rest-there x y ys n ∙ (rest-step x ys o.1 h ∙ ap (λ zs. x ∷ zs) (sym (
        ap (λ at. rest_from at (y ∷ ys)) (following-there x y ys n) ∙ skipped (following x ys) y ys (goes-on x ys h) o.0)))
  ]
]

-- A walk over a list that has told so many of its nodes: it is at one of them, and what it told and what is left are
-- the list.
pub record IsWalk (nodes : ℕ) (xs told : List ℕ) (at : Option ℕ) : Type 0 where
  pub known : AreNodes nodes xs
  pub inside : IsAt at xs
  pub whole : told ++ rest_from at xs ≡ xs

pub walk-begins : (nodes : ℕ) (xs : List ℕ) → AreNodes nodes xs → IsWalk nodes xs [] (first_of xs)
walk-begins nodes xs known = record { known = known; inside = starts xs; whole = rest-first xs }

module _ {nodes x : ℕ} {xs told : List ℕ} {at : Option ℕ} (w : IsWalk nodes xs told at) (here : at ≡ Some x) where
  -- the node at which the walk is stands in the list
  pub walk-inside : has x xs ≡ true
  walk-inside = subst (λ a. IsAt a xs) here w.inside

  -- so it is one of the nodes
  pub walk-below : x < nodes
  walk-below = w.known.below x walk-inside

module _ {nodes x : ℕ} {xs told : List ℕ} {at next : Option ℕ} (w : IsWalk nodes xs told at) (here : at ≡ Some x) (next_is : next ≡ following x xs) where
  left : rest_from at xs ≡ x ∷ rest_from next xs
  left = ap (λ a. rest_from a xs) here ∙ (rest-step x xs w.known.once (walk-inside w here) ∙ ap (λ a. x ∷ rest_from a xs) (sym next_is))

  -- less is left after a step
  pub walk-shrinks : length (rest_from next xs) < length (rest_from at xs)
  walk-shrinks = let e = ap length left in omega arith

  -- after a step the node is told
  pub walk-goes_on : IsWalk nodes xs (told ++ x ∷ []) next
  walk-goes_on = record {
    known = w.known;
    inside = subst (λ a. IsAt a xs) (sym next_is) (goes-on x xs (walk-inside w here));
    whole = append_assoc told (x ∷ []) (rest_from next xs) ∙ (ap (λ zs. told ++ zs) (sym left) ∙ w.whole);
  }

-- a walk that is past the last has told the list
pub walk-ends : (nodes : ℕ) (xs told : List ℕ) → IsWalk nodes xs told None → told ≡ xs
walk-ends nodes xs told w = sym (append-nil told) ∙ w.whole

-- a walk has told no more nodes than there are
pub walk-few : {nodes : ℕ} {xs told : List ℕ} {at : Option ℕ} → IsWalk nodes xs told at → length told ≤ nodes
walk-few {nodes} {xs} {told} {at} w =
    let all = ap length w.whole in
    omega (arith, all, length-append told (rest_from at xs), length-once nodes xs w.known.once w.known.below)

-- ---- what holds of the nodes that a walk has told

-- The walk is at this node, and Q holds of the nodes that it has told.
pub record IsWalkWith (nodes : ℕ) (xs : List ℕ) (at : Option ℕ) (Q : List ℕ → Type 0) : Type 0 where
  pub told : List ℕ
  pub walk : IsWalk nodes xs told at
  pub so_far : Q told

pub with-begins : {Q : List ℕ → Type 0} (nodes : ℕ) (xs : List ℕ) → AreNodes nodes xs → Q [] → IsWalkWith nodes xs (first_of xs) Q
with-begins nodes xs known q = record { told = []; walk = walk-begins nodes xs known; so_far = q }

pub with-goes_on : {Q R : List ℕ → Type 0} {nodes x : ℕ} {xs : List ℕ} {at next : Option ℕ} (w : IsWalkWith nodes xs at Q) → at ≡ Some x → next ≡ following x xs
    → ((told : List ℕ) → Q told → R (told ++ x ∷ [])) → IsWalkWith nodes xs next R
with-goes_on {x = x} w here next_is step = record {
  told = w.told ++ x ∷ [];
  walk = walk-goes_on w.walk here next_is;
  so_far = step w.told w.so_far;
}

pub with-ends : {Q : List ℕ → Type 0} {nodes : ℕ} {xs : List ℕ} {at : Option ℕ} (w : IsWalkWith nodes xs at Q) → at ≡ None → Q xs
with-ends {Q} {nodes} {xs} w past = subst Q (walk-ends nodes xs w.told (subst (IsWalk nodes xs w.told) past w.walk)) w.so_far

-- ---- places

has-index : (xs : List ℕ) (i : ℕ) → i < length xs → has (get_or xs i 0) xs ≡ true
has-index [] i h = absurd (omega arith)
has-index (x ∷ xs) zero h = has-here x x xs refl
has-index (x ∷ xs) (suc i) h = has-there (get_or xs i 0) x xs (has-index xs i (omega arith))

-- the node behind the i-th
pub following-index : (xs : List ℕ) (i : ℕ) → IsOnce xs → i < length xs → following (get_or xs i 0) xs ≡ first_of (drop (suc i) xs)
following-index [] i o h = absurd (omega arith)
following-index (x ∷ xs) zero o h = following-here x x xs refl
following-index (x ∷ xs) (suc i) o h =
    following-there (get_or xs i 0) x xs (λ e. apart (get_or xs i 0) x xs (has-index xs i (omega arith)) o.0 (sym e)) ∙ following-index xs i o.1 (omega arith)
