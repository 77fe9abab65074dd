-- The middle weight and the greatest one.
use Rattle.std.proofs.Common.{◌≡◌, ◌∙◌, ℕ, ◌+◌, ◌*◌, ◌<◌, ◌≤◌, min, max, refl, sym, ap, ap₂, subst, arith, inl, inr, Bool, true, false, true≢false, cond, ◌&&◌, nat_le, nat_lt, if◌then◌else◌, List, [], ◌∷◌, length, get_or, take, All, Contains, ℤ, pos, negsuc, unsigned_abs}
use Rattle.std.specs.Prelude.{◌⊎◌, ◌≤ℤ◌}
use Rattle.std.proofs.lemmas.Bool.{cases_lt, le-leb}
use Rattle.std.proofs.lemmas.Int.{ints}
use Rattle.std.proofs.lemmas.List.Elements.{All-contains, All-head, All-map, All-more, All-tail, All-weaker, Contains-get_or}
use Rattle.std.proofs.lemmas.List.Sums.{sum_by-cons}
use Rattle.ih_tables.specs.declared.drafts.Draft.{Draft}
use Rattle.ih_tables.specs.Valid.{IsValid}
use Rattle.ih_improve.specs.declared.defaults.Defaults.{Defaults}
use Rattle.ih_improve.specs.Defaults.{AreDefaults, IsGreatest, IsMiddle, count_above, count_up_to, defaults_by, has_half, weights_of}

-- ---- the lesser and the greater of two numbers

one-of-least : (m w : ℕ) → (min m w ≡ m) ⊎ ((w ≤ m) × (min m w ≡ w))
one-of-least m w = by_order (cases_lt m w)
  where
    by_order : (m < w) ⊎ (w ≤ m) → (min m w ≡ m) ⊎ ((w ≤ m) × (min m w ≡ w))
    by_order (inl less) = inl (omega arith)
    by_order (inr most) = inr (most, omega arith)

one-of-greatest : (m w : ℕ) → (max m w ≡ m) ⊎ (max m w ≡ w)
one-of-greatest m w = by_order (cases_lt m w)
  where
    by_order : (m < w) ⊎ (w ≤ m) → (max m w ≡ m) ⊎ (max m w ≡ w)
    by_order (inl less) = inr (omega arith)
    by_order (inr most) = inl (omega arith)

-- ---- the greatest weight

-- so far
pub record IsGreatestTo (ws : List ℕ) (i g : ℕ) : Type 0 where
  pub weight : Contains ws g
  pub greatest : All (λ w. w ≤ g) (take i ws)

-- one weight more
pub greatest-more : (ws : List ℕ) (i g r : ℕ) → i < length ws → IsGreatestTo ws i g → r ≡ max g (get_or ws i 0) → IsGreatestTo ws (i + 1) r
greatest-more ws i g r more so_far is = record {
  weight = one (one-of-greatest g (get_or ws i 0));
  greatest = All-more (λ v. v ≤ r) ws i 0 more (All-weaker (λ v. v ≤ g) (λ v. v ≤ r) (λ v h. omega arith) (take i ws) so_far.greatest) (omega arith);
}
  where
    one : (max g (get_or ws i 0) ≡ g) ⊎ (max g (get_or ws i 0) ≡ get_or ws i 0) → Contains ws r
    one (inl same) = subst (λ (n : ℕ). Contains ws n) (sym (is ∙ same)) so_far.weight
    one (inr same) = subst (λ (n : ℕ). Contains ws n) (sym (is ∙ same)) (Contains-get_or ws i 0 more)

-- ---- the middle weight

and-true : (b : Bool) → b ≡ (b && true)
and-true true = refl
and-true false = refl

-- where no weight is greater, all that are above 0 are at most so large
all-counted : (ws : List ℕ) (g : ℕ) → All (λ w. w ≤ g) ws → count_above ws ≡ count_up_to ws g
all-counted [] g h = refl
all-counted (w ∷ ws) g h =
    let one : nat_lt 0 w ≡ (nat_lt 0 w && nat_le w g) = and-true (nat_lt 0 w) ∙ ap (λ (b : Bool). nat_lt 0 w && b) (sym (le-leb w g (All-head (λ v. v ≤ g) w ws h))) in
    sum_by-cons (λ v. cond (nat_lt 0 v) 1 0) w ws
    ∙ (ap₂ (λ (b : Bool) (n : ℕ). cond b 1 0 + n) one (all-counted ws g (All-tail (λ v. v ≤ g) w ws h))
    ∙ sym (sum_by-cons (λ v. cond (nat_lt 0 v && nat_le v g) 1 0) w ws))

-- so at least half of them are at most as large as the greatest
greatest-half : (ws : List ℕ) (g : ℕ) → All (λ w. w ≤ g) ws → has_half ws g ≡ true
greatest-half ws g h = let same = all-counted ws g h in le-leb (count_above ws) (2 * count_up_to ws g) (omega arith)

-- the least of those that were looked at, or of one that is known
pub record IsMiddleTo (ws : List ℕ) (i m : ℕ) : Type 0 where
  pub weight : Contains ws m
  pub half : has_half ws m ≡ true
  pub least : All (λ w. has_half ws w ≡ true → m ≤ w) (take i ws)

-- before the first one
pub middle-none : (ws : List ℕ) (g : ℕ) → IsGreatest ws g → IsMiddleTo ws 0 g
middle-none ws g is = record {
  weight = is.weight;
  half = greatest-half ws g is.greatest;
  least = λ k d less. absurd (omega (arith, less));
}

module _ (ws : List ℕ) (i m : ℕ) (more : i < length ws) (so_far : IsMiddleTo ws i m) where
  -- one that isn't greater, nor than the next weight if that has half
  lower : (r : ℕ) → Contains ws r → has_half ws r ≡ true → r ≤ m → (has_half ws (get_or ws i 0) ≡ true → r ≤ get_or ws i 0) → IsMiddleTo ws (i + 1) r
  lower r weight half low next = record {
    weight = weight;
    half = half;
    least = All-more (λ v. has_half ws v ≡ true → r ≤ v) ws i 0 more
        (All-weaker (λ v. has_half ws v ≡ true → m ≤ v) (λ v. has_half ws v ≡ true → r ≤ v) (λ v h halved. let least : m ≤ v = h halved in omega arith) (take i ws) so_far.least)
        next;
  }

  least-one : has_half ws (get_or ws i 0) ≡ true → (min m (get_or ws i 0) ≡ m) ⊎ ((get_or ws i 0 ≤ m) × (min m (get_or ws i 0) ≡ get_or ws i 0))
      → IsMiddleTo ws (i + 1) (min m (get_or ws i 0))
  least-one halved (inl same) =
      lower (min m (get_or ws i 0)) (subst (λ (n : ℕ). Contains ws n) (sym same) so_far.weight) (subst (λ (n : ℕ). has_half ws n ≡ true) (sym same) so_far.half)
      (omega arith) (λ h. omega arith)
  least-one halved (inr (most, same)) =
      lower (min m (get_or ws i 0)) (subst (λ (n : ℕ). Contains ws n) (sym same) (Contains-get_or ws i 0 more)) (subst (λ (n : ℕ). has_half ws n ≡ true) (sym same) halved)
      (omega arith) (λ h. omega arith)

  by_half : (b : Bool) → has_half ws (get_or ws i 0) ≡ b → IsMiddleTo ws (i + 1) (if b then min m (get_or ws i 0) else m)
  by_half true halved = least-one halved (one-of-least m (get_or ws i 0))
  by_half false lacks = lower m so_far.weight so_far.half (omega arith) (λ h. absurd (true≢false (sym h ∙ lacks)))

  -- one weight more
  pub middle-more : (r : ℕ) → r ≡ (if has_half ws (get_or ws i 0) then min m (get_or ws i 0) else m) → IsMiddleTo ws (i + 1) r
  middle-more r is = subst (IsMiddleTo ws (i + 1)) (sym is) (by_half (has_half ws (get_or ws i 0)) refl)

-- ---- of an instance

small : (z : ℤ) → (pos 0 ≤ℤ z) × (z ≤ℤ pos 100000) → unsigned_abs z ≤ 100000
small (pos n) h = let most : pos n ≤ℤ pos 100000 = h.1 in omega (arith, ints)
small (negsuc n) h = let least : pos 0 ≤ℤ negsuc n = h.0 in omega (arith, ints)

-- no weight is above 100,000
pub weight-most : (I : Draft) → IsValid I → (w : ℕ) → Contains (weights_of I) w → w ≤ 100000
weight-most I valid w is =
    All-contains (λ v. v ≤ 100000) (weights_of I) w
    (All-map (λ v. v ≤ 100000) unsigned_abs I.weights.w
    (All-weaker (λ z. (pos 0 ≤ℤ z) × (z ≤ℤ pos 100000)) (λ z. unsigned_abs z ≤ 100000) small I.weights.w valid.weights))
    is

-- ---- there is only one of each

middle-same : (ws : List ℕ) (m n : ℕ) → IsMiddle ws m → IsMiddle ws n → m ≡ n
middle-same ws m n one other =
    let below : m ≤ n = All-contains (λ w. has_half ws w ≡ true → m ≤ w) ws n one.least other.weight other.half in
    let above : n ≤ m = All-contains (λ w. has_half ws w ≡ true → n ≤ w) ws m other.least one.weight one.half in
    omega arith

greatest-same : (ws : List ℕ) (g h : ℕ) → IsGreatest ws g → IsGreatest ws h → g ≡ h
greatest-same ws g h one other =
    let below : h ≤ g = All-contains (λ w. w ≤ g) ws h one.greatest other.weight in
    let above : g ≤ h = All-contains (λ w. w ≤ h) ws g other.greatest one.weight in
    omega arith

pub defaults-same : (I : Draft) (d e : Defaults) → AreDefaults I d → AreDefaults I e → d ≡ e
defaults-same I d e one other =
    one.are
    ∙ (ap₂ (λ (m g : ℕ). defaults_by m g) (middle-same (weights_of I) one.middle other.middle one.is_middle other.is_middle)
    (greatest-same (weights_of I) one.greatest other.greatest one.is_greatest other.is_greatest)
    ∙ sym other.are)
