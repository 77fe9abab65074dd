-- Tests of lists: what passes in one, and what a range has.
use Rattle.std.proofs.Common.{◌≡◌, ℕ, zero, suc, ◌+◌, ◌<◌, ◌≤◌, refl, sym, ap, ◌∙◌, arith, Bool, true, false, List, [], ◌∷◌, length, inl, inr, Some, None, cond}
use Rattle.std.specs.Prelude.{slice_get, filter, find, map, ◌||◌}
use Rattle.std.specs.List.{list_all, list_any, range_with_len}
use Rattle.std.specs.Option.{option_map_or}
use Rattle.std.proofs.lemmas.Bool.{and_from, and_parts, cases_eq, or_cases, or_left, or_right}
use Rattle.ih_plan.specs.Sums.{bit, sum_below}
use Rattle.ih_plan.specs.Costs.{is_empty}

some-inside : {A : Type 0} (x y : A) → Some x ≡ Some y → x ≡ y
some-inside x y e = cc

-- what passes stands somewhere
pub any-where : {A : Type 0} (p : A → Bool) (xs : List A) → list_any p xs ≡ true → (i : ℕ) × (x : A) × (slice_get xs i ≡ Some x) × (p x ≡ true)
any-where p [] h = absurd (let no : false ≡ true = h in cc)
any-where p (x ∷ xs) h = elim (or_cases (p x) (list_any p xs) h) [
  | inl here ↦ (0, x, refl, here)
  | inr later ↦ let rest = any-where p xs later in (suc rest.0, rest.1, rest.2, rest.3)
]

pub any-at : {A : Type 0} (p : A → Bool) (xs : List A) (i : ℕ) (x : A) → slice_get xs i ≡ Some x → p x ≡ true → list_any p xs ≡ true
any-at p [] i x e h = absurd (let no : None ≡ Some x = e in cc)
any-at p (y ∷ ys) zero x e h = or_left (p y) (list_any p ys) (ap p (some-inside y x e) ∙ h)
any-at p (y ∷ ys) (suc i) x e h = or_right (p y) (list_any p ys) (any-at p ys i x e h)

pub there-is : {A : Type 0} (xs : List A) (i : ℕ) → i < length xs → (x : A) × (slice_get xs i ≡ Some x)
there-is [] i h = absurd (omega arith)
there-is (x ∷ xs) zero h = (x, refl)
there-is (x ∷ xs) (suc i) h = there-is xs i (omega arith)

pub any-range : (p : ℕ → Bool) (n a i : ℕ) → a ≤ i → i < a + n → p i ≡ true → list_any p (range_with_len a n) ≡ true
any-range p zero a i low high h = absurd (omega arith)
any-range p (suc n) a i low high h = elim (cases_eq a i) [
  | inl here ↦ or_left (p a) (list_any p (range_with_len (a + 1) n)) (ap p here ∙ h)
  | inr later ↦ or_right (p a) (list_any p (range_with_len (a + 1) n)) (any-range p n (a + 1) i (omega arith) (omega arith) h)
]

-- what passes in a range is a number of it
pub range-where : (p : ℕ → Bool) (n a : ℕ) → list_any p (range_with_len a n) ≡ true → (i : ℕ) × (a ≤ i) × (i < a + n) × (p i ≡ true)
range-where p zero a h = absurd (let no : false ≡ true = h in cc)
range-where p (suc n) a h = elim (or_cases (p a) (list_any p (range_with_len (a + 1) n)) h) [
  | inl here ↦ (a, omega arith, omega arith, here)
  | inr later ↦ let rest = range-where p n (a + 1) later in (rest.0, omega (arith, rest.1), omega (arith, rest.2), rest.3)
]

pub all-range : (p : ℕ → Bool) (n a : ℕ) → ((i : ℕ) → a ≤ i → i < a + n → p i ≡ true) → list_all p (range_with_len a n) ≡ true
all-range p zero a h = refl
all-range p (suc n) a h =
    and_from (p a) (list_all p (range_with_len (a + 1) n)) (h a (omega arith) (omega arith))
    (all-range p n (a + 1) (λ i low high. h i (omega arith) (omega arith)))

pub range-each : (p : ℕ → Bool) (n a i : ℕ) → list_all p (range_with_len a n) ≡ true → a ≤ i → i < a + n → p i ≡ true
range-each p zero a i h low high = absurd (omega arith)
range-each p (suc n) a i h low high =
    let parts = and_parts (p a) (list_all p (range_with_len (a + 1) n)) h in
    elim (cases_eq a i) [
      | inl here ↦ ap p (sym here) ∙ parts.0
      | inr later ↦ range-each p n (a + 1) i parts.1 (omega arith) (omega arith)
    ]

-- what passes is kept
pub kept-some : {A : Type 0} (p : A → Bool) (xs : List A) → list_any p xs ≡ true → is_empty (filter p xs) ≡ false
kept-some p [] h = absurd (let no : false ≡ true = h in cc)
kept-some p (x ∷ xs) h = by_case (p x) (list_any p xs) h (kept-some p xs)
  where
    by_case : (b c : Bool) → (b || c) ≡ true → (c ≡ true → is_empty (filter p xs) ≡ false) → is_empty (cond b (x ∷ filter p xs) (filter p xs)) ≡ false
    by_case true c h rest = refl
    by_case false c h rest = rest h

pub any-map : {A B : Type 0} (p : B → Bool) (f : A → B) (xs : List A) → list_any p (map f xs) ≡ list_any (λ x. p (f x)) xs
any-map p f [] = refl
any-map p f (x ∷ xs) = ap (λ b. p (f x) || b) (any-map p f xs)

-- ---- how many pass, place by place

first-term : (n : ℕ) (f : ℕ → ℕ) → sum_below (suc n) f ≡ f 0 + sum_below n (λ i. f (suc i))
unfolding sum_below
first-term zero f = omega arith
first-term (suc n) f = omega (arith, first-term n f)

kept-length : {A : Type 0} (b : Bool) (x : A) (xs : List A) → length (cond b (x ∷ xs) xs) ≡ bit b + length xs
kept-length true x xs = omega arith
kept-length false x xs = omega arith

pub length-filter_places : {A : Type 0} (p : A → Bool) (xs : List A) → length (filter p xs) ≡ sum_below (length xs) (λ i. bit (option_map_or p (slice_get xs i) false))
unfolding sum_below
length-filter_places p [] = refl
length-filter_places p (x ∷ xs) =
    kept-length (p x) x (filter p xs)
    ∙ (ap (λ n. bit (p x) + n) (length-filter_places p xs)
    ∙ sym (first-term (length xs) (λ i. bit (option_map_or p (slice_get (x ∷ xs) i) false))))

-- ---- the first that passes

pub find-passes : {A : Type 0} (p : A → Bool) (xs : List A) (x : A) → find p xs ≡ Some x → p x ≡ true
find-passes p [] x e = absurd (let no : None ≡ Some x = e in cc)
find-passes {A} p (y ∷ ys) x e = by_case (p y) refl e (find-passes p ys x)
  where
    by_case : (b : Bool) → p y ≡ b → cond b (Some y) (find p ys) ≡ Some x → (find p ys ≡ Some x → p x ≡ true) → p x ≡ true
    by_case true here e rest = ap p (sym (some-inside y x e)) ∙ here
    by_case false here e rest = rest e

pub find-none : {A : Type 0} (p : A → Bool) (xs : List A) (i : ℕ) (x : A) → find p xs ≡ None → slice_get xs i ≡ Some x → p x ≡ false
find-none p [] i x e at = absurd (let no : None ≡ Some x = at in cc)
find-none {A} p (y ∷ ys) i x e at = by_case (p y) refl e i at (λ j f. find-none p ys j x f)
  where
    by_case : (b : Bool) → p y ≡ b → cond b (Some y) (find p ys) ≡ None → (j : ℕ) → slice_get (y ∷ ys) j ≡ Some x → ((j : ℕ) → find p ys ≡ None → slice_get ys j ≡ Some x → p x ≡ false) → p x ≡ false
    by_case true here e j at rest = absurd (let no : Some y ≡ None = e in cc)
    by_case false here e zero at rest = ap p (sym (some-inside y x at)) ∙ here
    by_case false here e (suc j) at rest = rest j e at

-- the first of a range is a number of it
pub find-below : (p : ℕ → Bool) (n a i : ℕ) → find p (range_with_len a n) ≡ Some i → i < a + n
find-below p zero a i e = absurd (let no : None ≡ Some i = e in cc)
find-below p (suc n) a i e = by_case (p a) e (find-below p n (a + 1) i)
  where
    by_case : (b : Bool) → cond b (Some a) (find p (range_with_len (a + 1) n)) ≡ Some i → (find p (range_with_len (a + 1) n) ≡ Some i → i < a + 1 + n) → i < a + suc n
    by_case true e rest = let here = some-inside a i e in omega arith
    by_case false e rest = omega (arith, rest e)
