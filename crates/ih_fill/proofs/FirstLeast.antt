-- The cheapest of a list is its first least, and there is no other.
use Rattle.std.proofs.Common.{◌≡◌, ℕ, zero, suc, ◌<◌, ◌≤◌, refl, sym, ap, ◌∙◌, subst, arith, inl, inr, Bool, true, false, List, [], ◌∷◌, ◌++◌, length, Some, None}
use Rattle.std.specs.Prelude.{ℤ, ◌<ℤ◌, ◌≤ℤ◌, int_lt, if◌then◌else◌, slice_get}
use Rattle.std.proofs.lemmas.Int.{ints}
use Rattle.ih_plan.specs.declared.moves.Write.{Write}
use Rattle.std.proofs.lemmas.Option.{slice_get_within}
use Rattle.ih_plan.proofs.ReadLemmas.{get-last}
use Rattle.ih_plan.proofs.TestLemmas.{below, not-below}
use Rattle.ih_fill.specs.Candidates.{cheapest}
use Rattle.ih_fill.specs.FirstLeast.{AnyPlace, IsBefore, IsFirstLeast, IsFirstLeastOf}
use Rattle.ih_fill.proofs.ListLemmas.{get-front, get-behind}

-- ---- which value comes before which

pub before-trans : (x y z : ℤ) (p q k : ℕ) → IsBefore x p y q → IsBefore y q z k → IsBefore x p z k
before-trans x y z p q k (inl less) (inl under) = inl (omega (arith, ints))
before-trans x y z p q k (inl less) (inr same) = let e = same.0 in inl (omega (arith, ints))
before-trans x y z p q k (inr same) (inl under) = let e = same.0 in inl (omega (arith, ints))
before-trans x y z p q k (inr same) (inr more) = inr (same.0 ∙ more.0, (let a = same.1 in let b = more.1 in omega arith))

pub before-at_most : (x y : ℤ) (p k : ℕ) → IsBefore x p y k → x ≤ℤ y
before-at_most x y p k (inl less) = omega (arith, ints)
before-at_most x y p k (inr same) = let e = same.0 in omega (arith, ints)

-- at a later place it is less
pub before-less : (x y : ℤ) (p k : ℕ) → k < p → IsBefore x p y k → x <ℤ y
before-less x y p k late (inl less) = less
before-less x y p k late (inr same) = absurd (let early = same.1 in omega arith)

pub at_most-before : (x y : ℤ) (p k : ℕ) → x ≤ℤ y → p ≤ k → IsBefore x p y k
at_most-before x y p k most early = by_case (int_lt x y) refl
  where
    by_case : (t : Bool) → int_lt x y ≡ t → IsBefore x p y k
    by_case true e = inl (below x y e)
    by_case false e = inr ((let other = not-below x y e in omega (arith, ints)), early)

both-later : (x y : ℤ) (p k : ℕ) → IsBefore x p y k → IsBefore x (suc p) y (suc k)
both-later x y p k (inl less) = inl less
both-later x y p k (inr same) = inr (same.0, (let early = same.1 in omega arith))

one-place : (x y : ℤ) (p q : ℕ) → IsBefore x p y q → IsBefore y q x p → p ≡ q
one-place x y p q (inl less) (inl more) = absurd (omega (arith, ints))
one-place x y p q (inl less) (inr same) = absurd (let e = same.0 in omega (arith, ints))
one-place x y p q (inr same) (inl less) = absurd (let e = same.0 in omega (arith, ints))
one-place x y p q (inr same) (inr other) = let early = same.1 in let late = other.1 in omega arith

module _ (v : Write → ℤ) where
  -- ---- the cheapest is the first least

  of-one : (w : Write) (k : ℕ) (x : Write) → slice_get (w ∷ []) k ≡ Some x → IsBefore (v w) 0 (v x) k
  of-one w zero x h = let same : w ≡ x = (let e : Some w ≡ Some x = h in cc) in inr (ap v same, omega arith)
  of-one w (suc k) x h = absurd (let no : None ≡ Some x = h in cc)

  pub only-one : (w : Write) → IsFirstLeast v (w ∷ []) AnyPlace 0 w
  only-one w = record { there = refl; among = tt; first = λ k x any there. of-one w k x there }

  -- a cheaper one follows the first
  one-behind : (w y c : Write) (ys : List Write) (q : ℕ) → int_lt (v y) (v w) ≡ true → IsFirstLeast v (y ∷ ys) AnyPlace q c
      → (k : ℕ) (x : Write) → slice_get (w ∷ y ∷ ys) k ≡ Some x → IsBefore (v c) (suc q) (v x) k
  one-behind w y c ys q less least zero x h =
      let same : v w ≡ v x = ap v (let e : Some w ≡ Some x = h in cc) in
      let under = below (v y) (v w) less in
      let most = before-at_most (v c) (v y) q 0 (least.first 0 y tt refl) in
      inl (omega (arith, ints))
  one-behind w y c ys q less least (suc k) x h = both-later (v c) (v x) q k (least.first k x tt h)

  -- one that isn't cheaper follows the first, which is the first least
  first-stays : (w y c : Write) (ys : List Write) → int_lt (v y) (v w) ≡ false → IsFirstLeast v (w ∷ ys) AnyPlace 0 c
      → (k : ℕ) (x : Write) → slice_get (w ∷ y ∷ ys) k ≡ Some x → v c ≤ℤ v x
  first-stays w y c ys dear least zero x h = before-at_most (v c) (v x) 0 0 (least.first 0 x tt h)
  first-stays w y c ys dear least (suc zero) x h =
      let same : v y ≡ v x = ap v (let e : Some y ≡ Some x = h in cc) in
      let over = not-below (v y) (v w) dear in
      let most = before-at_most (v c) (v w) 0 0 (least.first 0 w tt refl) in
      omega (arith, ints)
  first-stays w y c ys dear least (suc (suc k)) x h = before-at_most (v c) (v x) 0 (suc k) (least.first (suc k) x tt h)

  -- or isn't
  later-stays : (w y c : Write) (ys : List Write) (q : ℕ) → int_lt (v y) (v w) ≡ false → IsFirstLeast v (w ∷ ys) AnyPlace (suc q) c
      → (k : ℕ) (x : Write) → slice_get (w ∷ y ∷ ys) k ≡ Some x → IsBefore (v c) (suc (suc q)) (v x) k
  later-stays w y c ys q dear least zero x h = inl (before-less (v c) (v x) (suc q) 0 (omega arith) (least.first 0 x tt h))
  later-stays w y c ys q dear least (suc zero) x h =
      let same : v y ≡ v x = ap v (let e : Some y ≡ Some x = h in cc) in
      let over = not-below (v y) (v w) dear in
      let under = before-less (v c) (v w) (suc q) 0 (omega arith) (least.first 0 w tt refl) in
      inl (omega (arith, ints))
  later-stays w y c ys q dear least (suc (suc k)) x h = both-later (v c) (v x) (suc q) (suc k) (least.first (suc k) x tt h)

  pub cheapest-first : (w : Write) (ws : List Write) → IsFirstLeastOf v (w ∷ ws) (cheapest v w ws)
  cheapest-first w [] = (0, only-one w)
  cheapest-first w (y ∷ ys) = by_case (int_lt (v y) (v w)) refl (cheapest-first y ys) (cheapest-first w ys)
    where
      beside : (q : ℕ) → int_lt (v y) (v w) ≡ false → IsFirstLeast v (w ∷ ys) AnyPlace q (cheapest v w ys) → IsFirstLeastOf v (w ∷ y ∷ ys) (cheapest v w ys)
      beside zero dear least = (
        0,
        record {
          there = least.there;
          among = tt;
          first = λ k x any there. at_most-before (v (cheapest v w ys)) (v x) 0 k (first-stays w y (cheapest v w ys) ys dear least k x there) (omega arith);
        },
      )
      beside (suc q) dear least = (
        suc (suc q),
        record {
          there = least.there;
          among = tt;
          first = λ k x any there. later-stays w y (cheapest v w ys) ys q dear least k x there;
        },
      )

      by_case : (t : Bool) → int_lt (v y) (v w) ≡ t → IsFirstLeastOf v (y ∷ ys) (cheapest v y ys) → IsFirstLeastOf v (w ∷ ys) (cheapest v w ys)
          → IsFirstLeastOf v (w ∷ y ∷ ys) (if t then cheapest v y ys else cheapest v w ys)
      by_case true less later other = (
        suc later.0,
        record {
          there = later.1.there;
          among = tt;
          first = λ k x any there. one-behind w y (cheapest v y ys) ys later.0 less later.1 k x there;
        },
      )
      by_case false dear later other = beside other.0 dear other.1

  -- ---- there is no other

  pub first-alone : (ws : List Write) (places : ℕ → Type 0) (p q : ℕ) (x y : Write) → IsFirstLeast v ws places p x → IsFirstLeast v ws places q y → x ≡ y
  first-alone ws places p q x y one other =
      let same : p ≡ q = one-place (v x) (v y) p q (one.first q y other.among other.there) (other.first p x one.among one.there) in
      let both : Some x ≡ Some y = sym one.there ∙ (ap (slice_get ws) same ∙ other.there) in
      cc

  pub first-cheapest : (w : Write) (ws : List Write) (p : ℕ) (x : Write) → IsFirstLeast v (w ∷ ws) AnyPlace p x → cheapest v w ws ≡ x
  first-cheapest w ws p x first = let own = cheapest-first w ws in first-alone (w ∷ ws) AnyPlace own.0 p (cheapest v w ws) x own.1 first

  -- ---- the cheapest of a write and of others

  either : (w x c : Write) (a : Bool) → int_lt (v x) (v w) ≡ a → (b : Bool) → int_lt (v c) (v x) ≡ b → (d : Bool) → int_lt (v c) (v w) ≡ d
      → (if a then (if b then c else x) else (if d then c else w)) ≡ (if int_lt (v (if b then c else x)) (v w) then (if b then c else x) else w)
  either w x c true e true f true g = rw g refl
  either w x c true e true f false g = absurd (omega (arith, ints))
  either w x c true e false f d g = rw e refl
  either w x c false e true f true g = rw g refl
  either w x c false e true f false g = rw g refl
  either w x c false e false f true g = absurd (omega (arith, ints))
  either w x c false e false f false g = rw e refl

  either-is : (w x c m n : Write) → m ≡ (if int_lt (v c) (v x) then c else x) → n ≡ (if int_lt (v c) (v w) then c else w)
      → (if int_lt (v x) (v w) then m else n) ≡ (if int_lt (v m) (v w) then m else w)
  either-is w x c m n e f = rw (e, f) (either w x c (int_lt (v x) (v w)) refl (int_lt (v c) (v x)) refl (int_lt (v c) (v w)) refl)

  -- it is the write, or the cheapest of the others where that costs less
  pub cheapest-joined : (w x : Write) (xs : List Write) → cheapest v w (x ∷ xs) ≡ cheapest v w (cheapest v x xs ∷ [])
  cheapest-joined w x [] = refl
  cheapest-joined w x (y ∷ ys) = either-is w x (cheapest v y ys) (cheapest v x (y ∷ ys)) (cheapest v w (y ∷ ys)) (cheapest-joined x y ys) (cheapest-joined w y ys)

  -- so of the others only the first least counts
  pub first-counts : (w : Write) (ws : List Write) (p : ℕ) (x : Write) → IsFirstLeast v ws AnyPlace p x → cheapest v w ws ≡ cheapest v w (x ∷ [])
  first-counts w [] p x first = absurd (let no : None ≡ Some x = first.there in cc)
  first-counts w (y ∷ ys) p x first = cheapest-joined w y ys ∙ ap (λ c. cheapest v w (c ∷ [])) (first-cheapest y ys p x first)

  -- ---- one write more

  pub first-longer : (ws : List Write) (x w : Write) (p : ℕ) → v w ≤ℤ v x → IsFirstLeast v ws AnyPlace p w → IsFirstLeast v (ws ++ x ∷ []) AnyPlace p w
  first-longer ws x w p most first = record {
    there = get-front ws x w p first.there;
    among = tt;
    first = λ k y any there. elim (get-behind ws x y k there) [
      | inl before ↦ first.first k y tt before
      | inr end ↦
          let inside = slice_get_within ws p w first.there in
          let last = end.0 in
          at_most-before (v w) (v y) p k (subst (λ z. v w ≤ℤ v z) end.1 most) (omega (arith, inside, last))
    ];
  }

  pub last-first : (ws : List Write) (x w : Write) (p : ℕ) → v x <ℤ v w → IsFirstLeast v ws AnyPlace p w → IsFirstLeast v (ws ++ x ∷ []) AnyPlace (length ws) x
  last-first ws x w p less first = record {
    there = get-last ws x;
    among = tt;
    first = λ k y any there. elim (get-behind ws x y k there) [
      | inl before ↦ let most = before-at_most (v w) (v y) p k (first.first k y tt before) in inl (omega (arith, ints))
      | inr end ↦ let last = end.0 in inr (ap v end.1, omega (arith, last))
    ];
  }
