-- Texts that differ.
use Rattle.std.proofs.Common.{zero, suc, ◌≡◌, ◌<◌, ◌≤◌, ◌&&◌, ◌||◌, ap, sym, ℕ, Bool, true, false, not, List, [], ◌∷◌, length, map, get_or, drop, take, ◌-◌, ◌∙◌, length-drop, refl, arith}
use Rattle.std.specs.List.{list_any, slice_index_or}
use Rattle.std.specs.Str.{bytes_eq}
use Rattle.std.specs.Borrow.{Bor}
use Rattle.std.proofs.lemmas.Bool.{and_parts, not-true}
use Rattle.std.proofs.lemmas.List.{take_all}
use Rattle.std.proofs.lemmas.Slice.Eq.{bytes_eq-Decides}
use Rattle.clap.specs.Words.{Text}
use Rattle.clap.proofs.WalkLemmas.{list_any-map}
use Rattle.ih_arguments.specs.Distinct.{all_differ}

rest_of : {X : Type 0} (xs : List X) → take (length xs - 1) (drop 1 xs) ≡ drop 1 xs
rest_of xs = take_all (length xs - 1) (drop 1 xs) (omega (arith, length-drop 1 xs))

differ_more : (xs : List (Bor Text)) (d : Bor Text) → 1 ≤ length xs
    → (not (list_any (λ s. bytes_eq (get_or xs 0 d).now s.now) (drop 1 xs)) && all_differ (map (λ s. s.now) (drop 1 xs)))
    ≡ all_differ (map (λ s. s.now) xs)
unfolding all_differ
differ_more [] d lt = absurd (omega arith)
differ_more (x ∷ xs) d lt = ap (λ b. not b && all_differ (map (λ (s : Bor Text). s.now) xs)) (list_any-map (bytes_eq x.now) (λ s. s.now) xs)

-- a name is among the rest, or the rest decide
pub differ_step : (xs : List (Bor Text)) (d : Bor Text) (a b : Bool) → 1 ≤ length xs
    → a ≡ list_any (λ s. bytes_eq (get_or xs 0 d).now s.now) (take (length xs - 1) (drop 1 xs))
    → b ≡ all_differ (map (λ s. s.now) (take (length xs - 1) (drop 1 xs)))
    → (not a && b) ≡ all_differ (map (λ s. s.now) xs)
differ_step xs d a b lt is_a is_b =
    let a2 : a ≡ list_any (λ s. bytes_eq (get_or xs 0 d).now s.now) (drop 1 xs) = is_a ∙ ap (list_any (λ s. bytes_eq (get_or xs 0 d).now s.now)) (rest_of xs) in
    let b2 : b ≡ all_differ (map (λ s. s.now) (drop 1 xs)) = is_b ∙ ap (λ (ys : List (Bor Text)). all_differ (map (λ s. s.now) ys)) (rest_of xs) in
    rw (a2, b2) (differ_more xs d lt)

any_at : {X : Type 0} (p : X → Bool) (xs : List X) (k : ℕ) (d : X) → k < length xs → p (slice_index_or xs k d) ≡ true → list_any p xs ≡ true
any_at p [] k d lt hit = absurd (omega arith)
any_at p (x ∷ xs) zero d lt hit = rw hit refl
any_at p (x ∷ xs) (suc k) d lt hit = go (p x) (any_at p xs k d (omega arith) hit)
  where
    go : (b : Bool) → list_any p xs ≡ true → (b || list_any p xs) ≡ true
    go true h = refl
    go false h = h

same_back : (s t : Text) → bytes_eq s t ≡ true → bytes_eq t s ≡ true
same_back s t h = (bytes_eq-Decides t s).1 (sym ((bytes_eq-Decides s t).0 h))

-- where all texts differ, two places with equal texts are one place
pub distinct : (ts : List Text) → all_differ ts ≡ true → (j k : ℕ) (e d : Text) → j < length ts → k < length ts
    → bytes_eq (slice_index_or ts j e) (slice_index_or ts k d) ≡ true → j ≡ k
unfolding all_differ
distinct [] h j k e d jl kl same = absurd (omega arith)
distinct (t ∷ ts) h zero zero e d jl kl same = refl
distinct (t ∷ ts) h zero (suc k) e d jl kl same =
    let there : list_any (bytes_eq t) ts ≡ true = any_at (bytes_eq t) ts k d (omega arith) same in
    let absent : list_any (bytes_eq t) ts ≡ false = not-true _ ((and_parts (not (list_any (bytes_eq t) ts)) _ h).0) in
    let bad : true ≡ false = sym there ∙ absent in cc
distinct (t ∷ ts) h (suc j) zero e d jl kl same =
    let there : list_any (bytes_eq t) ts ≡ true = any_at (bytes_eq t) ts j e (omega arith) (same_back _ t same) in
    let absent : list_any (bytes_eq t) ts ≡ false = not-true _ ((and_parts (not (list_any (bytes_eq t) ts)) _ h).0) in
    let bad : true ≡ false = sym there ∙ absent in cc
distinct (t ∷ ts) h (suc j) (suc k) e d jl kl same =
    ap suc (distinct ts (and_parts (not (list_any (bytes_eq t) ts)) _ h).1 j k e d (omega arith) (omega arith) same)
