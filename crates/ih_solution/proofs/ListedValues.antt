-- What one more number makes of a list of values.
use Rattle.std.proofs.Common.{◌≡◌, ℕ, ◌+◌, refl, sym, arith, add-one, Bool, true, false, List, [], ◌∷◌, ◌++◌, map, length}
use Rattle.std.specs.Prelude.{if◌then◌else◌, ◌==◌}
use Rattle.std.specs.List.{range_with_len}
use Rattle.std.proofs.lemmas.List.{map-append}
use Rattle.std.proofs.lemmas.List.FromFn.{map-range_with_len_more}
use Rattle.std.proofs.lemmas.Bool.{eq-eqb, ne_eqb}
use Rattle.serde_json.specs.Data.{Data}
use Rattle.serde_json.specs.View.{view}
use Rattle.serde_json.specs.declared.value.Value.{Value}
use Rattle.ih_plan.specs.Sums.{which_below}
use Rattle.ih_plan.specs.Costs.{is_empty}
use Rattle.ih_plan.proofs.PlanRanges.{choice-inside}

pub ruleset place_steps = choice-inside

pub views-more : (vs : List Value) (v : Value) → map view (vs ++ v ∷ []) ≡ map view vs ++ view v ∷ []
views-more vs v = map-append view vs (v ∷ [])

pub chosen-zero : (f : ℕ → Data) (p : ℕ → Bool) → map f (which_below 0 p) ≡ []
unfolding which_below
chosen-zero f p = refl

pub chosen-more : (f : ℕ → Data) (n : ℕ) (p : ℕ → Bool)
    → map f (which_below (n + 1) p) ≡ (if p n then map f (which_below n p) ++ f n ∷ [] else map f (which_below n p))
unfolding which_below
chosen-more f n p = rw add-one (by_case (p n))
  where
    by_case : (b : Bool) → map f (if b then which_below n p ++ n ∷ [] else which_below n p) ≡ (if b then map f (which_below n p) ++ f n ∷ [] else map f (which_below n p))
    by_case true = map-append f (which_below n p) (n ∷ [])
    by_case false = refl

pub listed-zero : (f : ℕ → Data) → map f (range_with_len 0 0) ≡ []
listed-zero f = refl

pub listed-more : (f : ℕ → Data) (n : ℕ) → map f (range_with_len 0 (n + 1)) ≡ map f (range_with_len 0 n) ++ f n ∷ []
listed-more f n = map-range_with_len_more f 0 n n (omega arith)

-- what a loop over a list keeps with one value more
pub listed-made : (f : ℕ → Data) (n : ℕ) (before after : List Value) (v : Value) → map view before ≡ map f (range_with_len 0 n)
    → view v ≡ f n → after ≡ before ++ v ∷ [] → map view after ≡ map f (range_with_len 0 (n + 1))
listed-made f n before after v so_far is pushed = rw (pushed, views-more before v, so_far, is) (sym (listed-more f n))

-- Values stand for numbers: there are none of the one exactly where there are none of the other.
pub empty-views : (f : ℕ → Data) (xs : List ℕ) (vs : List Value) (count : ℕ) → count ≡ length vs → map view vs ≡ map f xs → (count == 0) ≡ is_empty xs
empty-views f [] [] count e h = eq-eqb count 0 e
empty-views f [] (v ∷ vs) count e h = absurd (let no : view v ∷ map view vs ≡ [] = h in cc)
empty-views f (x ∷ xs) [] count e h = absurd (let no : [] ≡ f x ∷ map f xs = h in cc)
empty-views f (x ∷ xs) (v ∷ vs) count e h = ne_eqb count 0 (λ none. omega arith)

pub ruleset chosen_steps = (views-more, chosen-zero, chosen-more)

pub ruleset listed_steps = (views-more, listed-zero, listed-more)
