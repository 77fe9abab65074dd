-- Lists of numbers by their texts.
use Rattle.std.proofs.Common.{◌≡◌, ℕ, ◌<◌, ◌≤◌, ap, arith, List, [], ◌∷◌, ◌++◌, map, length, All}
use Rattle.std.proofs.lemmas.List.{length-map, length-append}
use Rattle.std.proofs.lemmas.List.Elements.{All-head, All-tail}

-- the texts so far, and then one that is no text of a number: the texts of no list of numbers
pub not_texts : {A : Type 0} (text : A → List ℕ) (P : A → Type 0) (front ns : List A) (x : List ℕ) (rest : List (List ℕ))
    → ((n : A) → P n → x ≡ text n → ⊥) → All P ns → map text front ++ x ∷ rest ≡ map text ns → ⊥
not_texts text P [] [] x rest none all h = let no : x ∷ rest ≡ [] = h in cc
not_texts text P [] (n ∷ ns) x rest none all h = let same : x ∷ rest ≡ text n ∷ map text ns = h in none n (All-head P n ns all) cc
not_texts text P (y ∷ front) [] x rest none all h = let no : text y ∷ (map text front ++ x ∷ rest) ≡ [] = h in cc
not_texts text P (y ∷ front) (n ∷ ns) x rest none all h =
    let same : text y ∷ (map text front ++ x ∷ rest) ≡ text n ∷ map text ns = h in
    not_texts text P front ns x rest none (All-tail P n ns all) cc

-- more texts than there are numbers
pub too_many : {A : Type 0} (text : A → List ℕ) (front ns : List A) (more : List (List ℕ))
    → length ns ≤ length front → 0 < length more → map text front ++ more ≡ map text ns → ⊥
too_many text front ns more h some e =
    let len = simp (length-append, length-map) at (ap length e) in
    omega (arith, len)
