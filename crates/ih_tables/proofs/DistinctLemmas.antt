-- Lists of which no two items share a key, as a loop meets them.
use Rattle.std.proofs.Common.{◌≡◌, ℕ, ◌+◌, List, length, sym, ap, ◌∙◌, arith, ◌<◌, ◌≤◌, get_or, take, length-take-le, subst}
use Rattle.std.specs.Prelude.{◌≢◌, AllPairs, Any, IsTrue, true, false}
use Rattle.std.proofs.lemmas.List.{get_or-take, get_or_default, take_more, take_all}
use Rattle.std.proofs.lemmas.List.Quantifiers.{all_pairs_push}

-- one more item, whose key none of the earlier ones has
pub distinct_more : {X K : Type 0} (key : X → K) (xs : List X) (i : ℕ) (d : X) (s : K) → i < length xs → s ≡ key (get_or xs i d)
    → (Any (λ y. key y ≡ s) (take i xs) → IsTrue false) → AllPairs (λ y z. key y ≢ key z) (take i xs) → AllPairs (λ y z. key y ≢ key z) (take (i + 1) xs)
distinct_more {X} {K} key xs i d s h is none so_far =
    let Distinct : List X → Type 0 = AllPairs (λ y z. key y ≢ key z) in
    subst Distinct (sym (take_more xs i d h)) (all_pairs_push (λ y z. key y ≢ key z) (take i xs) (get_or xs i d) so_far (λ k e l same.
    let y = get_or (take i xs) k e in
    let no : false ≡ true = none (k, y, l, get_or_default (take i xs) k y e l, same ∙ sym is) in cc))

-- an item whose key an earlier one has
pub distinct_not : {X K : Type 0} (key : X → K) (xs : List X) (i : ℕ) (d : X) (s : K) → i < length xs → s ≡ key (get_or xs i d)
    → Any (λ y. key y ≡ s) (take i xs) → AllPairs (λ y z. key y ≢ key z) xs → IsTrue false
distinct_not {X} {K} key xs i d s h is found all =
    let k = found.0 in
    let y = found.1 in
    let short : length (take i xs) ≡ i = length-take-le i xs (omega arith) in
    let small : k < i = omega (arith, found.2, short) in
    let there : get_or xs k y ≡ y = sym (get_or-take i xs k y small) ∙ found.3 in
    absurd (all k i y small h (ap key there ∙ found.4 ∙ is ∙ ap key (get_or_default xs i d y h)))

pub distinct_all : {X K : Type 0} (key : X → K) (xs : List X) (i : ℕ) → length xs ≤ i → AllPairs (λ y z. key y ≢ key z) (take i xs) → AllPairs (λ y z. key y ≢ key z) xs
distinct_all {X} {K} key xs i h so_far =
    let Distinct : List X → Type 0 = AllPairs (λ y z. key y ≢ key z) in
    subst Distinct (take_all i xs h) so_far
