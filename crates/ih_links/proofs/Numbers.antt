-- Vectors of numbers of a width, seen as the numbers that they are.
use Rattle.std.proofs.Common.{◌≡◌, ℕ, ◌<◌, ap, ◌∙◌, sym, subst, List, [], ◌∷◌, ◌++◌, length}
use Rattle.std.specs.Prelude.{map, slice_index_or, slice_set}
use Rattle.std.proofs.lemmas.List.{map-set, map-append, length-map}
use Rattle.std.proofs.Math.ListN.{get_or-map}
use Rattle.ih_links.specs.Lists.{LinksState}

module _ {W : Type 0} (number : W → ℕ) where
  -- what is read at a place
  pub number-read : (xs : List W) (i : ℕ) (w : W) (n : ℕ) → w ≡ slice_index_or xs i w → n ≡ number w → n ≡ slice_index_or (map number xs) i n
  number-read xs i w n read is =
      is ∙ (ap number read ∙ (sym (get_or-map number xs i w) ∙ ap (slice_index_or (map number xs) i) (sym is)))

  -- what is written there
  pub number-set : (xs : List W) (i : ℕ) (w : W) (n : ℕ) → number w ≡ n → map number (slice_set xs i w) ≡ slice_set (map number xs) i n
  number-set xs i w n is = map-set number xs i w ∙ ap (slice_set (map number xs) i) is

  pub number-set_twice : (xs : List W) (i : ℕ) (w : W) (n j : ℕ) (u : W) (m : ℕ) → number w ≡ n → number u ≡ m
      → map number (slice_set (slice_set xs i w) j u) ≡ slice_set (slice_set (map number xs) i n) j m
  number-set_twice xs i w n j u m is also =
      number-set (slice_set xs i w) j u m also ∙ ap (λ ns. slice_set ns j m) (number-set xs i w n is)

  -- one more
  pub number-push : (xs ys : List W) (w : W) (n : ℕ) → ys ≡ xs ++ w ∷ [] → number w ≡ n → map number ys ≡ map number xs ++ n ∷ []
  number-push xs ys w n more is = ap (map number) more ∙ (map-append number xs (w ∷ []) ∙ ap (λ k. map number xs ++ k ∷ []) is)

  -- what is seen of them, with as many nodes as there are numbers
  pub numbers-seen : (ls : List (List ℕ)) (xs : List W) (v : LinksState) → ◌≡◌ {A = LinksState} (record { lists = ls; nodes = length xs }) v
      → ◌≡◌ {A = LinksState} (record { lists = ls; nodes = length (map number xs) }) v
  numbers-seen ls xs v seen =
      subst (λ n. ◌≡◌ {A = LinksState} (record { lists = ls; nodes = n }) v) (sym (length-map xs number)) seen

  -- a place among them
  pub number-below : (xs : List W) (i : ℕ) → i < length (map number xs) → i < length xs
  number-below xs i below = subst (λ n. i < n) (length-map xs number) below
