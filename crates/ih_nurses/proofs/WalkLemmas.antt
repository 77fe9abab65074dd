-- Sums over a list of persons: by a walk, and as sums over all persons.
use Rattle.std.proofs.Common.{◌≡◌, ℕ, ◌+◌, ◌*◌, ◌≤◌, refl, arith, sym, ap, ◌∙◌, Bool, true, false, List, [], ◌∷◌, ◌++◌, length, length-append, Option, Some, None}
use Rattle.std.specs.Prelude.{if◌then◌else◌, sum_by}
use Rattle.std.proofs.lemmas.Nat.{mul-le}
use Rattle.std.proofs.lemmas.List.Sums.{sum_by-append, sum_by-cons}
use Rattle.ih_links.specs.Lists.{has, AreNodes, following, first_of}
use Rattle.ih_links.proofs.Members.{has-here, has-there, lacks-from}
use Rattle.ih_links.proofs.Walks.{IsWalkWith, walk-few, walk-goes_on, with-begins, with-goes_on, with-ends}
use Rattle.ih_plan.specs.Sums.{sum_below}
use Rattle.ih_plan.proofs.SumLemmas.{sum_below-but}
use Rattle.ih_plan.proofs.SumBounds.{sum_below-none}

-- what the numbers of a list give, each at most b
pub record IsSum (b : ℕ) (f : ℕ → ℕ) (sum : ℕ) (xs : List ℕ) : Type 0 where
  pub whole : sum ≡ sum_by f xs
  pub few : sum ≤ length xs * b

-- The walk is at this node, and the sum is what the nodes give that it has told, each at most b.
abbrev pub IsSumWalk : ℕ → ℕ → (ℕ → ℕ) → List ℕ → ℕ → Option ℕ → Type 0
IsSumWalk n b f xs sum at = IsWalkWith n xs at (IsSum b f sum)

pub sum-even : (b : ℕ) (xs : List ℕ) → sum_by (λ x. b) xs ≡ length xs * b
sum-even b [] = omega arith
sum-even b (x ∷ xs) = omega (arith, sum_by-cons (λ x. b) x xs, sum-even b xs)

pub sum-begins : (n b : ℕ) (f : ℕ → ℕ) (xs : List ℕ) (at : Option ℕ) → AreNodes n xs → at ≡ first_of xs → IsSumWalk n b f xs 0 at
sum-begins n b f xs at known first = rw first (with-begins n xs known (record { whole = refl; few = omega arith }))

sum-step : (b : ℕ) (f : ℕ → ℕ) (sum x y : ℕ) (told : List ℕ) → y ≡ f x → y ≤ b → IsSum b f sum told → IsSum b f (sum + y) (told ++ x ∷ [])
sum-step b f sum x y told same small so_far = record {
  whole = omega (arith, same, so_far.whole, sum_by-append f told (x ∷ []), sum_by-cons f x []);
  few = let more = length-append told (x ∷ []) in let all : length (told ++ x ∷ []) * b ≡ length told * b + b = rw more (omega arith) in omega (arith, small, so_far.few, all);
}

module _ {n b : ℕ} {f : ℕ → ℕ} {xs : List ℕ} {sum : ℕ} {at : Option ℕ} (w : IsSumWalk n b f xs sum at) {x : ℕ} (here : at ≡ Some x) where
  pub sum-goes_on : {next : Option ℕ} → next ≡ following x xs → (y : ℕ) → y ≡ f x → y ≤ b → IsSumWalk n b f xs (sum + y) next
  sum-goes_on next_is y same small = with-goes_on w here next_is (λ told so_far. sum-step b f sum x y told same small so_far)

  -- the next number fits
  pub sum-fits : (y : ℕ) → y ≤ b → sum + y ≤ n * b
  sum-fits y small =
      let more = length-append w.told (x ∷ []) in
      let fewer = walk-few (walk-goes_on w.walk here refl) in
      let all = mul-le (length w.told + 1) b n b (omega (arith, more, fewer)) (omega arith) in
      omega (arith, small, w.so_far.few, all)

pub sum-ends : {n b : ℕ} {f : ℕ → ℕ} {xs : List ℕ} {sum : ℕ} {at : Option ℕ} → IsSumWalk n b f xs sum at → at ≡ None → sum ≡ sum_by f xs
sum-ends w e = (with-ends w e).whole

pub sum-most : {n b : ℕ} {f : ℕ → ℕ} {xs : List ℕ} {sum : ℕ} {at : Option ℕ} → IsSumWalk n b f xs sum at → sum ≤ n * b
sum-most {n} {b} w =
    let all = mul-le (length w.told) b n b (walk-few w.walk) (omega arith) in
    omega (arith, w.so_far.few, all)

-- a sum over a list without repeats, as a sum over all numbers
pub sum-listed : (n : ℕ) (f : ℕ → ℕ) (xs : List ℕ) → AreNodes n xs → sum_by f xs ≡ sum_below n (λ x. if has x xs then f x else 0)
sum-listed n f [] known = sym (sum_below-none n)
sum-listed n f (y ∷ ys) known =
    let rest = sum-listed n f ys (record { below = λ x m. known.below x (has-there x y ys m); once = known.once.1 }) in
    let change = sum_below-but n y (λ x. if has x (y ∷ ys) then f x else 0) (λ x. if has x ys then f x else 0) (known.below y (has-here y y ys refl))
    (λ x h ne. ap (λ b. if b then f x else 0) (other x (λ e. ne (sym e)))) in
    let before : (if has y ys then f y else 0) ≡ 0 = rw known.once.0 refl in
    let after : (if has y (y ∷ ys) then f y else 0) ≡ f y = ap (λ b. if b then f y else 0) (has-here y y ys refl) in
    omega (arith, rest, change, before, after, sum_by-cons f y ys)
  where
    other : (x : ℕ) → (y ≡ x → ⊥) → has x (y ∷ ys) ≡ has x ys
    other x ne = by_case (has x ys) refl
      where
        by_case : (b : Bool) → has x ys ≡ b → has x (y ∷ ys) ≡ has x ys
        by_case true e = has-there x y ys e ∙ sym e
        by_case false e = lacks-from x y ys ne e ∙ sym e
