-- What one more number makes of tests over a range of numbers.
use Rattle.std.proofs.Common.{◌≡◌, ℕ, ◌+◌, refl, sym, Bool, false, List, [], ◌∷◌, ◌++◌, map}
use Rattle.std.specs.Prelude.{◌||◌}
use Rattle.std.proofs.Math.Bool.{or-false, or_assoc}
use Rattle.std.specs.List.{list_any, range_with_len}
use Rattle.ih_plan.proofs.SumBounds.{sum_below-none}
use Rattle.std.proofs.lemmas.List.FromFn.{map-range_with_len_more}

pub any_range-zero : {A : Type 0} (q : A → Bool) (f : ℕ → A) (a : ℕ) → list_any q (map f (range_with_len a 0)) ≡ false
any_range-zero q f a = refl

any-push : {A : Type 0} (q : A → Bool) (xs : List A) (y : A) → list_any q (xs ++ y ∷ []) ≡ (list_any q xs || q y)
any-push q [] y = or-false (q y)
any-push q (x ∷ xs) y = rw (any-push q xs y) (sym (or_assoc (q x) (list_any q xs) (q y)))

pub any_range-more : {A : Type 0} (q : A → Bool) (f : ℕ → A) (a n : ℕ)
    → list_any q (map f (range_with_len a (n + 1))) ≡ (list_any q (map f (range_with_len a n)) || q (f (a + n)))
any_range-more q f a n = rw (map-range_with_len_more f a n (a + n) refl) (any-push q (map f (range_with_len a n)) (f (a + n)))

pub ruleset range_steps = (any_range-zero, any_range-more)

pub ruleset none_steps = sum_below-none
