-- One more line, or none, behind those of the patients before.
use Rattle.std.proofs.Common.{◌≡◌, ℕ, ◌+◌, ◌∙◌, ap, refl, Bool, true, false, List, [], ◌∷◌, ◌++◌, append_assoc}
use Rattle.std.specs.Prelude.{flat_map, if◌then◌else◌}
use Rattle.std.proofs.lemmas.Grind.{flat_map-append}
use Rattle.std.proofs.lemmas.List.{append-nil}
use Rattle.ih_plan.specs.Sums.{which_below}
use Rattle.ih_plan.proofs.SumLemmas.{which_below-more, which_below-zero}

pub lines-none : (f : ℕ → List ℕ) (q : ℕ → Bool) → flat_map f (which_below 0 q) ≡ []
lines-none f q = ap (flat_map f) (which_below-zero q)

chosen : (f : ℕ → List ℕ) (xs : List ℕ) (n : ℕ) (b : Bool) → flat_map f (if b then xs ++ n ∷ [] else xs) ≡ flat_map f xs ++ (if b then f n else [])
chosen f xs n true = flat_map-append f xs (n ∷ []) ∙ ap (λ ys. flat_map f xs ++ ys) (append-nil (f n))
chosen f xs n false = rw (append-nil (flat_map f xs)) refl

pub lines-more : (f : ℕ → List ℕ) (q : ℕ → Bool) (n : ℕ) → flat_map f (which_below (n + 1) q) ≡ flat_map f (which_below n q) ++ (if q n then f n else [])
lines-more f q n = ap (flat_map f) (which_below-more n q) ∙ chosen f (which_below n q) n (q n)

pub ruleset line_steps = (lines-none, lines-more, append-nil, append_assoc)
