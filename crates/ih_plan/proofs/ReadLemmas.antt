-- What is read from a list: from two lists in a row, behind the first entries, and from copies of one thing.
use Rattle.std.proofs.Common.{◌≡◌, ℕ, zero, suc, ◌+◌, ◌<◌, refl, ap, ◌∙◌, arith, List, [], ◌∷◌, ◌++◌, length, drop, ◌⊎◌, inl, inr, replicate, Option, Some, None}
use Rattle.std.specs.Prelude.{slice_get, slice_index_or, option_and_then}

-- an entry of two lists in a row is one of the first, or one of the second
pub get-append : {X : Type 0} (xs ys : List X) (k : ℕ) (x : X) → slice_get (xs ++ ys) k ≡ Some x
    → (slice_get xs k ≡ Some x) ⊎ ((i : ℕ) × (slice_get ys i ≡ Some x))
get-append [] ys k x h = inr (k, h)
get-append (z ∷ zs) ys zero x h = inl h
get-append (z ∷ zs) ys (suc k) x h = get-append zs ys k x h

-- an entry of the first of two lists in a row is one of both
pub get-front : {X : Type 0} (xs ys : List X) (k : ℕ) (x : X) → slice_get xs k ≡ Some x → slice_get (xs ++ ys) k ≡ Some x
get-front [] ys k x h = absurd (let no : None ≡ Some x = h in cc)
get-front (z ∷ zs) ys zero x h = h
get-front (z ∷ zs) ys (suc k) x h = get-front zs ys k x h

-- behind the first of two lists in a row comes the second
pub get-behind : {X : Type 0} (xs ys : List X) (k : ℕ) → slice_get (xs ++ ys) (length xs + k) ≡ slice_get ys k
get-behind [] ys k = let same : 0 + k ≡ k = omega arith in ap (slice_get ys) same
get-behind (x ∷ xs) ys k =
    let more : length (x ∷ xs) + k ≡ suc (length xs + k) = omega arith in
    ap (slice_get (x ∷ xs ++ ys)) more ∙ get-behind xs ys k

-- what is left of a list without its first entries
pub get-drop : {X : Type 0} (n : ℕ) (xs : List X) (k : ℕ) → slice_get (drop n xs) k ≡ slice_get xs (n + k)
get-drop zero xs k = let same : k ≡ 0 + k = omega arith in ap (slice_get xs) same
get-drop (suc n) [] k = refl
get-drop (suc n) (x ∷ xs) k = let same : suc (n + k) ≡ suc n + k = omega arith in get-drop n xs k ∙ ap (slice_get (x ∷ xs)) same

-- an entry of a list with one more is an earlier one, or the last
pub get-more : {X : Type 0} (xs : List X) (x y : X) (k : ℕ) → slice_get (xs ++ x ∷ []) k ≡ Some y
    → ((k < length xs) × (slice_get xs k ≡ Some y)) ⊎ ((k ≡ length xs) × (x ≡ y))
get-more [] x y zero h = inr (refl, let same : x ≡ y = cc in same)
get-more [] x y (suc k) h = absurd (let no : None ≡ Some y = h in cc)
get-more (z ∷ zs) x y zero h = inl (omega arith, h)
get-more (z ∷ zs) x y (suc k) h = elim (get-more zs x y k h) [
  | inl earlier ↦ let less = earlier.0 in inl (omega arith, earlier.1)
  | inr last ↦ let here = last.0 in inr (omega arith, last.1)
]

-- the entry that was put last
pub get-last : {X : Type 0} (xs : List X) (x : X) → slice_get (xs ++ x ∷ []) (length xs) ≡ Some x
get-last [] x = refl
get-last (z ∷ zs) x = get-last zs x

-- copies of one thing are that wherever they are read
pub index-copies : {X : Type 0} (n i : ℕ) (x : X) → slice_index_or (replicate n x) i x ≡ x
index-copies zero i x = refl
index-copies (suc n) zero x = refl
index-copies (suc n) (suc i) x = index-copies n i x

-- nothing is read from copies of nothing
pub none-copies : {X : Type 0} (n i : ℕ) → option_and_then (λ (o : Option X). o) (slice_get (replicate n None) i) ≡ None
none-copies zero i = refl
none-copies (suc n) zero = refl
none-copies (suc n) (suc i) = none-copies n i
