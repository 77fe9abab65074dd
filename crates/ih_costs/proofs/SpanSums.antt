-- Sums that agree but in a span, at some places, or in some of rows and columns.
use Rattle.std.proofs.Common.{◌≡◌, ℕ, ◌+◌, ◌-◌, ◌<◌, ◌≤◌, refl, arith, ap, sym, ◌∙◌, inl, inr, Bool, true, false, Option, Some, None}
use Rattle.std.specs.Prelude.{◌==◌, sum_by, if◌then◌else◌}
use Rattle.std.proofs.lemmas.Bool.{cases_eq, eq-eqb, ne_eqb}
use Rattle.ih_plan.specs.Costs.{is_number}
use Rattle.ih_plan.specs.Sums.{sum_below, which_below}
use Rattle.ih_plan.proofs.Ranges.{sum_below-append}
use Rattle.ih_plan.proofs.SumLemmas.{sum_below-same, sum_below-but, sum_below-more, sum_below-zero, sum_by-which_below}
use Rattle.ih_plan.proofs.SumBounds.{sum_below-add, sum_below-none, sum_below-swap}
use Rattle.ih_costs.specs.StayDelta.{span_sum}

-- ---- steps

pub span-none : (a : ℕ) (f : ℕ → ℕ) → span_sum a a f ≡ 0
unfolding span_sum
span-none a f =
    let e : a - a ≡ 0 = omega arith in
    ap (λ n. sum_below n (λ i. f (a + i))) e ∙ sum_below-zero (λ i. f (a + i))

pub span-more : (a b : ℕ) (f : ℕ → ℕ) → a ≤ b → span_sum a (b + 1) f ≡ span_sum a b f + f b
unfolding span_sum
span-more a b f h =
    let e : b + 1 - a ≡ b - a + 1 = omega arith in
    let last : a + (b - a) ≡ b = omega arith in
    let more = sum_below-more (b - a) (λ i. f (a + i)) in
    ap (λ n. sum_below n (λ i. f (a + i))) e ∙ (more ∙ ap (λ n. sum_below (b - a) (λ i. f (a + i)) + f n) last)

pub span-same : (a b : ℕ) (f g : ℕ → ℕ) → ((i : ℕ) → f i ≡ g i) → span_sum a b f ≡ span_sum a b g
unfolding span_sum
span-same a b f g e = sum_below-same (b - a) (λ i. f (a + i)) (λ i. g (a + i)) (λ i h. e (a + i))

-- a sum of nothing
pub span-zero : (a b : ℕ) (f : ℕ → ℕ) → ((i : ℕ) → f i ≡ 0) → span_sum a b f ≡ 0
unfolding span_sum
span-zero a b f e = sum_below-same (b - a) (λ i. f (a + i)) (λ i. 0) (λ i h. e (a + i)) ∙ sum_below-none (b - a)

-- ---- a span and what is around it

pub in_runs : (a b n : ℕ) (f : ℕ → ℕ) → a ≤ b → b ≤ n → sum_below n f ≡ sum_below a f + span_sum a b f + sum_below (n - b) (λ i. f (b + i))
unfolding span_sum
in_runs a b n f ab bn =
    let all : b + (n - b) ≡ n = omega arith in
    let front : a + (b - a) ≡ b = omega arith in
    let one = sum_below-append b (n - b) f in
    let two = sum_below-append a (b - a) f in
    let whole : sum_below (b + (n - b)) f ≡ sum_below n f = ap (λ m. sum_below m f) all in
    let head : sum_below (a + (b - a)) f ≡ sum_below b f = ap (λ m. sum_below m f) front in
    omega (arith, one, two, whole, head)

-- sums that agree but in a span
pub sum_below-but_span : (a b n : ℕ) (f g : ℕ → ℕ) → a ≤ b → b ≤ n → ((i : ℕ) → i < a → f i ≡ g i)
    → ((i : ℕ) → b ≤ i → i < n → f i ≡ g i) → sum_below n f + span_sum a b g ≡ sum_below n g + span_sum a b f
sum_below-but_span a b n f g ab bn before behind =
    let of_f = in_runs a b n f ab bn in
    let of_g = in_runs a b n g ab bn in
    let heads = sum_below-same a f g before in
    let tails = sum_below-same (n - b) (λ i. f (b + i)) (λ i. g (b + i)) (λ i h. behind (b + i) (omega arith) (omega arith)) in
    omega (arith, of_f, of_g, heads, tails)

-- what balances at each place balances in a span
pub span-balance : (a b : ℕ) (f g u v : ℕ → ℕ) → ((i : ℕ) → a ≤ i → i < b → f i + v i ≡ g i + u i)
    → span_sum a b f + span_sum a b v ≡ span_sum a b g + span_sum a b u
unfolding span_sum
span-balance a b f g u v e =
    sym (sum_below-add (b - a) (λ i. f (a + i)) (λ i. v (a + i)))
    ∙ (sum_below-same (b - a) (λ i. f (a + i) + v (a + i)) (λ i. g (a + i) + u (a + i)) (λ i h. e (a + i) (omega arith) (omega arith))
    ∙ sum_below-add (b - a) (λ i. g (a + i)) (λ i. u (a + i)))

-- ---- some places

-- sums that agree but at two places
sum_below-but_two : (n a b : ℕ) (f g : ℕ → ℕ) → a < n → b < n → (a ≡ b → ⊥) → ((i : ℕ) → i < n → (i ≡ a → ⊥) → (i ≡ b → ⊥) → f i ≡ g i)
    → sum_below n f + (g a + g b) ≡ sum_below n g + (f a + f b)
sum_below-but_two n a b f g ha hb ne e =
    let mid = λ (i : ℕ). if i == b then g i else f i in
    let at_b : mid b ≡ g b = rw (eq-eqb b b refl) refl in
    let at_a : mid a ≡ f a = rw (ne_eqb a b ne) refl in
    let one = sum_below-but n b f mid hb (λ i h other. rw (ne_eqb i b other) refl) in
    let two = sum_below-but n a mid g ha (λ i h other. by_case i h other) in
    omega (arith, one, two, at_a, at_b)
  where
    by_case : (i : ℕ) → i < n → (i ≡ a → ⊥) → (if i == b then g i else f i) ≡ g i
    by_case i h other = elim (cases_eq i b) [
      | inl same ↦ rw (eq-eqb i b same) refl
      | inr apart ↦ rw (ne_eqb i b apart) (e i h other apart)
    ]

pub apart_from : (a b : ℕ) → (b ≡ a → ⊥) → (a == b) ≡ false
apart_from a b ne = ne_eqb a b (λ e. ne (sym e))

-- what a function gives at a place, and nothing at none
abbrev pub at_place : (ℕ → ℕ) → Option ℕ → ℕ
at_place f None = 0
at_place f (Some i) = f i

-- Sums that agree but at two places that differ, each of which may be none.
pub sum_below-but_places : (n : ℕ) (f g : ℕ → ℕ) (a b : Option ℕ) → (a ≡ b → ⊥) → ((i : ℕ) → a ≡ Some i → i < n) → ((i : ℕ) → b ≡ Some i → i < n)
    → ((i : ℕ) → i < n → is_number a i ≡ false → is_number b i ≡ false → f i ≡ g i)
    → sum_below n f + (at_place g a + at_place g b) ≡ sum_below n g + (at_place f a + at_place f b)
sum_below-but_places n f g None None ne ha hb e = absurd (ne refl)
sum_below-but_places n f g None (Some b) ne ha hb e =
    let one = sum_below-but n b f g (hb b refl) (λ i h other. e i h refl (apart_from b i other)) in
    omega (arith, one)
sum_below-but_places n f g (Some a) None ne ha hb e =
    let one = sum_below-but n a f g (ha a refl) (λ i h other. e i h (apart_from a i other) refl) in
    omega (arith, one)
sum_below-but_places n f g (Some a) (Some b) ne ha hb e =
    sum_below-but_two n a b f g (ha a refl) (hb b refl) (λ same. ne (ap Some same)) (λ i h one two. e i h (apart_from a i one) (apart_from b i two))

-- sums that agree where a test doesn't pass
pub sum_below-passing : (n : ℕ) (f g : ℕ → ℕ) (test : ℕ → Bool) → ((i : ℕ) → i < n → test i ≡ false → f i ≡ g i)
    → sum_below n f + sum_by g (which_below n test) ≡ sum_below n g + sum_by f (which_below n test)
sum_below-passing n f g test e =
    rw (sum_by-which_below f n test, sum_by-which_below g n test)
    (sym (sum_below-add n f (λ i. if test i then g i else 0))
    ∙ (sum_below-same n (λ i. f i + (if test i then g i else 0)) (λ i. g i + (if test i then f i else 0)) (λ i h. by_case (test i) (f i) (g i) (e i h))
    ∙ sum_below-add n g (λ i. if test i then f i else 0)))
  where
    by_case : (b : Bool) (x y : ℕ) → (b ≡ false → x ≡ y) → x + (if b then y else 0) ≡ y + (if b then x else 0)
    by_case true x y same = omega arith
    by_case false x y same = rw (same refl) refl

-- ---- rows and columns

pub rows-same : (m n : ℕ) (f g : ℕ → ℕ → ℕ) → ((i j : ℕ) → i < m → j < n → f i j ≡ g i j)
    → sum_below m (λ i. sum_below n (λ j. f i j)) ≡ sum_below m (λ i. sum_below n (λ j. g i j))
rows-same m n f g e =
    sum_below-same m (λ i. sum_below n (λ j. f i j)) (λ i. sum_below n (λ j. g i j)) (λ i h. sum_below-same n (λ j. f i j) (λ j. g i j) (λ j l. e i j h l))

-- Sums over rows and columns that agree but in the span of one row.
pub rows-but_span : (m n r a b : ℕ) (f g : ℕ → ℕ → ℕ) → r < m → a ≤ b → b ≤ n
    → ((i j : ℕ) → i < m → j < n → (i ≡ r → ⊥) → f i j ≡ g i j)
    → ((j : ℕ) → j < a → f r j ≡ g r j)
    → ((j : ℕ) → b ≤ j → j < n → f r j ≡ g r j)
    → sum_below m (λ i. sum_below n (λ j. f i j)) + span_sum a b (λ j. g r j) ≡ sum_below m (λ i. sum_below n (λ j. g i j)) + span_sum a b (λ j. f r j)
rows-but_span m n r a b f g inside ab bn other before behind =
    let rows = sum_below-but m r (λ i. sum_below n (λ j. f i j)) (λ i. sum_below n (λ j. g i j)) inside
    (λ i h ne. sum_below-same n (λ j. f i j) (λ j. g i j) (λ j l. other i j h l ne)) in
    let row = sum_below-but_span a b n (λ j. f r j) (λ j. g r j) ab bn before behind in
    omega (arith, rows, row)

-- Sums over rows and columns that agree but at one place.
pub rows-but : (m n r k : ℕ) (f g : ℕ → ℕ → ℕ) → r < m → k < n
    → ((i j : ℕ) → i < m → j < n → (i ≡ r → ⊥) → f i j ≡ g i j)
    → ((j : ℕ) → j < n → (j ≡ k → ⊥) → f r j ≡ g r j)
    → sum_below m (λ i. sum_below n (λ j. f i j)) + g r k ≡ sum_below m (λ i. sum_below n (λ j. g i j)) + f r k
rows-but m n r k f g inside within other row =
    let rows = sum_below-but m r (λ i. sum_below n (λ j. f i j)) (λ i. sum_below n (λ j. g i j)) inside
    (λ i h ne. sum_below-same n (λ j. f i j) (λ j. g i j) (λ j l. other i j h l ne)) in
    let place = sum_below-but n k (λ j. f r j) (λ j. g r j) within row in
    omega (arith, rows, place)

-- Sums over rows and columns that agree but in one column, which balances.
pub columns-but : (m n k : ℕ) (f g : ℕ → ℕ → ℕ) (u v : ℕ) → k < n
    → ((i j : ℕ) → i < m → j < n → (j ≡ k → ⊥) → f i j ≡ g i j)
    → sum_below m (λ i. f i k) + v ≡ sum_below m (λ i. g i k) + u
    → sum_below m (λ i. sum_below n (λ j. f i j)) + v ≡ sum_below m (λ i. sum_below n (λ j. g i j)) + u
columns-but m n k f g u v inside other balanced =
    let of_f = sum_below-swap m n f in
    let of_g = sum_below-swap m n g in
    let around = sum_below-but n k (λ j. sum_below m (λ i. f i j)) (λ j. sum_below m (λ i. g i j)) inside
    (λ j h ne. sum_below-same m (λ i. f i j) (λ i. g i j) (λ i l. other i j l h ne)) in
    omega (arith, of_f, of_g, around, balanced)

-- Sums over rows and columns that agree outside a span of columns, and balance in each column of it.
pub columns-but_span : (m n a b : ℕ) (f g : ℕ → ℕ → ℕ) (u v : ℕ → ℕ) → a ≤ b → b ≤ n
    → ((i j : ℕ) → i < m → j < a → f i j ≡ g i j)
    → ((i j : ℕ) → i < m → b ≤ j → j < n → f i j ≡ g i j)
    → ((j : ℕ) → a ≤ j → j < b → sum_below m (λ i. f i j) + v j ≡ sum_below m (λ i. g i j) + u j)
    → sum_below m (λ i. sum_below n (λ j. f i j)) + span_sum a b v ≡ sum_below m (λ i. sum_below n (λ j. g i j)) + span_sum a b u
columns-but_span m n a b f g u v ab bn before behind balanced =
    let of_f = sum_below-swap m n f in
    let of_g = sum_below-swap m n g in
    let around = sum_below-but_span a b n (λ j. sum_below m (λ i. f i j)) (λ j. sum_below m (λ i. g i j)) ab bn
    (λ j h. sum_below-same m (λ i. f i j) (λ i. g i j) (λ i l. before i j l h))
    (λ j h l. sum_below-same m (λ i. f i j) (λ i. g i j) (λ i k. behind i j k h l)) in
    let within = span-balance a b (λ j. sum_below m (λ i. f i j)) (λ j. sum_below m (λ i. g i j)) u v balanced in
    omega (arith, of_f, of_g, around, within)
