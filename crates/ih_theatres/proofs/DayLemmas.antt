-- Lists of patients by day: what entering and leaving make of them, and what their sums and tests are.
use Rattle.std.proofs.Common.{◌≡◌, ℕ, ◌*◌, ◌<◌, refl, arith, sym, ap, subst, ◌∙◌, Bool, true, false, List, [], ◌∷◌, ◌++◌, inl, inr, Option, Some, None, length}
use Rattle.std.specs.Prelude.{◌||◌, ◌==◌, map, slice_set, slice_index_or, sum_by, if◌then◌else◌}
use Rattle.std.specs.List.{list_any}
use Rattle.std.specs.Cmp.{both_ways}
use Rattle.std.proofs.Math.ListN.{get_or-map}
use Rattle.std.proofs.lemmas.List.{length-set, length-map, get_or-set_same, get_or-set_other}
use Rattle.std.proofs.lemmas.Bool.{cases_eq, eq-eqb, eqb-true, ne_eqb, or_cases, or_left, or_right}
use Rattle.std.proofs.lemmas.List.Sums.{sum_by-cons}
use Rattle.std.proofs.Math.Bool.{or-false}
use Rattle.ih_tables.specs.declared.drafts.Draft.{Draft}
use Rattle.ih_tables.specs.Sizes.{patient_count}
use Rattle.ih_links.specs.Lists.{LinksState, AreNodes, IsOnce, list_of, has, without, is_at}
use Rattle.ih_links.proofs.Members.{has-append, has-here, has-there, has-cases, has-without_self, has-without_other, once-append, once-without, apart}
use Rattle.ih_plan.specs.Sums.{sum_below, which_below}
use Rattle.ih_plan.specs.Costs.{is_empty}
use Rattle.ih_plan.proofs.ListedBelow.{has-which_below, which_below-has}
use Rattle.ih_plan.proofs.ListedBelow.{has as holds}
use Rattle.ih_plan.proofs.SumLemmas.{sum_below-same, sum_below-but, sum_by-which_below}
use Rattle.ih_plan.proofs.SumBounds.{sum_below-none}
use Rattle.ih_theatres.specs.Days.{AreDays}

-- ---- patients of a list, each once

pub nodes-append : {n : ℕ} {xs : List ℕ} (p : ℕ) → AreNodes n xs → p < n → has p xs ≡ false → AreNodes n (xs ++ p ∷ [])
nodes-append {n} {xs} p known inside free = record {
  below = λ x there. elim (or_cases (has x xs) (p == x) (sym (has-append x xs p) ∙ there)) [
    | inl h ↦ known.below x h
    | inr e ↦ subst (λ y. y < n) (eqb-true p x e) inside
  ];
  once = once-append xs p known.once free;
}

pub nodes-without : {n : ℕ} {xs : List ℕ} (p : ℕ) → AreNodes n xs → AreNodes n (without p xs)
nodes-without {n} {xs} p known = record {
  below = λ x there. known.below x (sym (has-without_other x p xs (apart x p (without p xs) there (has-without_self p xs))) ∙ there);
  once = once-without p xs known.once;
}

-- ---- the lists of all days

module _ {I : Draft} {n : ℕ} {day : ℕ → Option ℕ} {v : LinksState} (a : AreDays I n day v) where
  -- who has no day is in no list
  pub days-free : (p : ℕ) → day p ≡ None → (h : ℕ) → has p (list_of v h) ≡ false
  days-free p none h = a.each h p ∙ ap (is_at h) none

  -- who has a day is in its list
  pub days-there : (p h : ℕ) → day p ≡ Some h → has p (list_of v h) ≡ true
  days-there p h some = a.each h p ∙ ap (is_at h) some ∙ eq-eqb h h refl

  -- and in no other
  pub days-away : (p h g : ℕ) → day p ≡ Some h → (g ≡ h → ⊥) → has p (list_of v g) ≡ false
  days-away p h g some other = a.each g p ∙ ap (is_at g) some ∙ ne_eqb h g (λ e. other (sym e))

  -- so in a list
  pub days-linked : (p h : ℕ) → day p ≡ Some h → (g : ℕ) × (has p (list_of v g) ≡ true)
  days-linked p h some = (h, days-there p h some)

  module _ {later : ℕ → Option ℕ} {w : LinksState} (p : ℕ) (others : (x : ℕ) → (x ≡ p → ⊥) → later x ≡ day x) (nodes : w.nodes ≡ v.nodes) where
    -- a patient enters one of the days
    pub days-entered : (h : ℕ) → p < patient_count I → h < n * I.days → day p ≡ None → later p ≡ Some h → w.lists ≡ slice_set v.lists h (list_of v h ++ p ∷ []) → AreDays I n later w
    days-entered h inside below none some lists = record {
      heads = ap length lists ∙ (length-set v.lists h (list_of v h ++ p ∷ []) ∙ a.heads);
      nodes = nodes ∙ a.nodes;
      each = λ g x. elim (cases_eq g h) [
        | inl same ↦ rw same (ap (has x) now ∙ (has-append x (list_of v h) p ∙ here x))
        | inr other ↦ ap (has x) (still g other) ∙ elsewhere g x other
      ];
      known = λ g. elim (cases_eq g h) [
        | inl same ↦ rw (same, now) (nodes-append p (a.known h) inside (days-free p none h))
        | inr other ↦ rw (still g other) (a.known g)
      ];
    }
      where
        now : list_of w h ≡ list_of v h ++ p ∷ []
        now = ap (λ ls. slice_index_or ls h []) lists ∙ get_or-set_same v.lists h (list_of v h ++ p ∷ []) [] (let e = a.heads in omega arith)

        still : (g : ℕ) → (g ≡ h → ⊥) → list_of w g ≡ list_of v g
        still g other = ap (λ ls. slice_index_or ls g []) lists ∙ get_or-set_other v.lists h g (list_of v h ++ p ∷ []) [] other

        here : (x : ℕ) → (has x (list_of v h) || (p == x)) ≡ is_at h (later x)
        here x = elim (cases_eq x p) [
          | inl e ↦ rw (e, eq-eqb p p refl, some, eq-eqb h h refl) (any (has p (list_of v h)))
          | inr ne ↦ rw (ne_eqb p x (λ e. ne (sym e)), others x ne, a.each h x) (or-false (is_at h (day x)))
        ]
          where
            any : (b : Bool) → (b || true) ≡ true
            any true = refl
            any false = refl

        elsewhere : (g x : ℕ) → (g ≡ h → ⊥) → has x (list_of v g) ≡ is_at g (later x)
        elsewhere g x other = a.each g x ∙ elim (cases_eq x p) [
          | inl e ↦ rw (e, none, some, ne_eqb h g (λ f. other (sym f))) refl
          | inr ne ↦ ap (is_at g) (sym (others x ne))
        ]

    -- a patient leaves
    pub days-left : later p ≡ None → w.lists ≡ map (without p) v.lists → AreDays I n later w
    days-left none lists = record {
      heads = ap length lists ∙ (length-map v.lists (without p) ∙ a.heads);
      nodes = nodes ∙ a.nodes;
      each = λ g x. ap (has x) (still g) ∙ elim (cases_eq x p) [
        | inl e ↦ rw (e, none) (has-without_self p (list_of v g))
        | inr ne ↦ has-without_other x p (list_of v g) ne ∙ (a.each g x ∙ ap (is_at g) (sym (others x ne)))
      ];
      known = λ g. rw (still g) (nodes-without p (a.known g));
    }
      where
        still : (g : ℕ) → list_of w g ≡ without p (list_of v g)
        still g = ap (λ ls. slice_index_or ls g []) lists ∙ get_or-map (without p) v.lists g []

-- ---- lists of the same numbers, in any order

-- a sum over a list without repeats
pub sum-once : (n : ℕ) (f : ℕ → ℕ) (xs : List ℕ) → IsOnce xs → ((x : ℕ) → has x xs ≡ true → x < n) → sum_by f xs ≡ sum_below n (λ i. if has i xs then f i else 0)
sum-once n f [] once below = sym (sum_below-none n)
sum-once n f (x ∷ xs) once below =
    let rest = sum-once n f xs once.1 (λ y h. below y (has-there y x xs h)) in
    let one = sum_below-but n x (λ i. if has i (x ∷ xs) then f i else 0) (λ i. if has i xs then f i else 0) (below x (has-here x x xs refl))
    (λ i h ne. ap (λ b. if b || has i xs then f i else 0) (ne_eqb x i (λ e. ne (sym e)))) in
    let mine : (if has x (x ∷ xs) then f x else 0) ≡ f x = ap (λ b. if b then f x else 0) (has-here x x xs refl) in
    let none : (if has x xs then f x else 0) ≡ 0 = ap (λ b. if b then f x else 0) once.0 in
    omega (arith, sum_by-cons f x xs)

-- a test that some number of a list passes
found : (q : ℕ → Bool) (xs : List ℕ) → list_any q xs ≡ true → (x : ℕ) × (has x xs ≡ true) × (q x ≡ true)
found q [] e = absurd (let no : false ≡ true = e in cc)
found q (x ∷ xs) e = elim (or_cases (q x) (list_any q xs) e) [
  | inl here ↦ (x, has-here x x xs refl, here)
  | inr later ↦ let rest = found q xs later in (rest.0, has-there rest.0 x xs rest.1, rest.2)
]

passes : (q : ℕ → Bool) (xs : List ℕ) (x : ℕ) → has x xs ≡ true → q x ≡ true → list_any q xs ≡ true
passes q [] x h e = absurd (let no : false ≡ true = h in cc)
passes q (y ∷ ys) x h e = elim (has-cases x y ys h) [
  | inl same ↦ or_left (q y) (list_any q ys) (rw same e)
  | inr later ↦ or_right (q y) (list_any q ys) (passes q ys x later e)
]

pub list_any-same : (q : ℕ → Bool) (xs ys : List ℕ) → ((x : ℕ) → has x xs ≡ true → has x ys ≡ true) → ((x : ℕ) → has x ys ≡ true → has x xs ≡ true)
    → list_any q xs ≡ list_any q ys
list_any-same q xs ys into back = both_ways (list_any q xs) (list_any q ys)
    (λ e. let w = found q xs e in passes q ys w.0 (into w.0 w.1) w.2)
    (λ e. let w = found q ys e in passes q xs w.0 (back w.0 w.1) w.2)

-- two words for being in a list
holds-has : (x : ℕ) (xs : List ℕ) → holds x xs ≡ has x xs
holds-has x [] = refl
holds-has x (y ∷ ys) = ap (λ b. (y == x) || b) (holds-has x ys)

empty-any : (xs : List ℕ) → is_empty xs ≡ (if list_any (λ x. true) xs then false else true)
empty-any [] = refl
empty-any (x ∷ xs) = refl

-- The list has the numbers below n that pass.
module _ {n : ℕ} {xs : List ℕ} (known : AreNodes n xs) (p : ℕ → Bool) (each : (x : ℕ) → has x xs ≡ p x) where
  pub sum-of_passing : (f : ℕ → ℕ) → sum_by f xs ≡ sum_by f (which_below n p)
  sum-of_passing f =
      sum-once n f xs known.once known.below
      ∙ (sum_below-same n (λ i. if has i xs then f i else 0) (λ i. if p i then f i else 0) (λ i h. ap (λ b. if b then f i else 0) (each i))
      ∙ sym (sum_by-which_below f n p))

  into : (x : ℕ) → has x xs ≡ true → has x (which_below n p) ≡ true
  into x h = sym (holds-has x (which_below n p)) ∙ (has-which_below n x p (known.below x h) ∙ (sym (each x) ∙ h))

  back : (x : ℕ) → has x (which_below n p) ≡ true → has x xs ≡ true
  back x h = each x ∙ (which_below-has n x p (holds-has x (which_below n p) ∙ h)).1

  pub any-of_passing : (q : ℕ → Bool) → list_any q xs ≡ list_any q (which_below n p)
  any-of_passing q = list_any-same q xs (which_below n p) into back

  pub empty-of_passing : is_empty xs ≡ is_empty (which_below n p)
  empty-of_passing =
      empty-any xs ∙ (ap (λ b. if b then false else true) (any-of_passing (λ x. true)) ∙ sym (empty-any (which_below n p)))
