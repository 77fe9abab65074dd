-- What a list of persons costs doesn't rest on its order: two lists with the same persons, each once, cost the same.
use Rattle.std.proofs.Common.{◌≡◌, ℕ, ◌≤◌, refl, arith, sym, ap, ◌∙◌, Bool, true, false, List, [], ◌∷◌, length, map, inl, inr}
use Rattle.std.specs.Prelude.{◌||◌, not}
use Rattle.std.specs.List.{list_any}
use Rattle.std.specs.Str.{bytes_eq}
use Rattle.std.proofs.lemmas.Bool.{cases_eq, cases_Bool, or_parts, or_from, both_ways, true_from_ne_false, ne_eqb}
use Rattle.std.proofs.lemmas.Slice.Eq.{bytes_eq-Decides}
use Rattle.ih_tables.specs.declared.drafts.Draft.{Draft}
use Rattle.ih_plan.specs.Persons.{person_of}
use Rattle.ih_plan.specs.Costs.{age_spread, genders_differ}
use Rattle.ih_plan.specs.Sums.{greatest, least}
use Rattle.ih_links.specs.Lists.{has, without, IsOnce}
use Rattle.ih_links.proofs.Members.{has-here, has-there, has-cases, has-without_self, has-without_other, once-without, length-without}
use Rattle.ih_roomdays.proofs.GenderLemmas.{gender_of}

-- both lists have the same numbers
abbrev pub AreAlike : List ℕ → List ℕ → Type 0
AreAlike xs ys = (x : ℕ) → has x xs ≡ has x ys

not-alike : (x : ℕ) (xs : List ℕ) → AreAlike [] (x ∷ xs) → ⊥
not-alike x xs alike = let no : false ≡ true = alike x ∙ has-here x x xs refl in absurd (cc)

alike-turned : (xs ys : List ℕ) → AreAlike xs ys → AreAlike ys xs
alike-turned xs ys alike x = sym (alike x)

-- without its first number a list is like the other one without that
alike-less : (x : ℕ) (xs ys : List ℕ) → has x xs ≡ false → AreAlike (x ∷ xs) ys → AreAlike xs (without x ys)
alike-less x xs ys free alike y = elim (cases_eq x y) [
  | inl e ↦ ap (λ z. has z xs) (sym e) ∙ (free ∙ (sym (has-without_self x ys) ∙ ap (λ z. has z (without x ys)) e))
  | inr ne ↦ sym (other x y xs ne) ∙ (alike y ∙ sym (has-without_other y x ys (λ e. ne (sym e))))
]
  where
    other : (x y : ℕ) (xs : List ℕ) → (x ≡ y → ⊥) → has y (x ∷ xs) ≡ has y xs
    other x y xs ne = ap (λ b. b || has y xs) (ne_eqb x y ne)

pub length-alike : (xs ys : List ℕ) → IsOnce xs → IsOnce ys → AreAlike xs ys → length xs ≡ length ys
length-alike [] [] o p alike = refl
length-alike [] (y ∷ ys) o p alike = absurd (not-alike y ys alike)
length-alike (x ∷ xs) ys o p alike =
    let rest = length-alike xs (without x ys) o.1 (once-without x ys p) (alike-less x xs ys o.0 alike) in
    let less = length-without x ys p (sym (alike x) ∙ has-here x x xs refl) in
    omega (arith, rest, less)

-- ---- ages

pub greatest-in : (f : ℕ → ℕ) (x : ℕ) (xs : List ℕ) → has x xs ≡ true → f x ≤ greatest (map f xs)
unfolding greatest
greatest-in f x [] m = absurd (cc)
greatest-in f x (y ∷ ys) m = elim (has-cases x y ys m) [
  | inl e ↦ let same = ap f e in omega arith
  | inr there ↦ omega (arith, greatest-in f x ys there)
]

pub greatest-most : (f : ℕ → ℕ) (b : ℕ) (xs : List ℕ) → ((x : ℕ) → has x xs ≡ true → f x ≤ b) → greatest (map f xs) ≤ b
unfolding greatest
greatest-most f b [] most = omega arith
greatest-most f b (y ∷ ys) most = omega (arith, most y (has-here y y ys refl), greatest-most f b ys (λ x m. most x (has-there x y ys m)))

greatest-alike : (f : ℕ → ℕ) (xs ys : List ℕ) → AreAlike xs ys → greatest (map f xs) ≡ greatest (map f ys)
greatest-alike f xs ys alike =
    let one = greatest-most f (greatest (map f ys)) xs (λ x m. greatest-in f x ys (sym (alike x) ∙ m)) in
    let two = greatest-most f (greatest (map f xs)) ys (λ x m. greatest-in f x xs (alike x ∙ m)) in
    omega arith

pub least-in : (f : ℕ → ℕ) (x : ℕ) (xs : List ℕ) → has x xs ≡ true → least (map f xs) ≤ f x
unfolding least
least-in f x [] m = absurd (cc)
least-in f x (y ∷ []) m = elim (has-cases x y [] m) [ inl e ↦ let same = ap f e in omega arith | inr none ↦ absurd (cc) ]
least-in f x (y ∷ z ∷ zs) m = elim (has-cases x y (z ∷ zs) m) [
  | inl e ↦ let same = ap f e in omega arith
  | inr there ↦ omega (arith, least-in f x (z ∷ zs) there)
]

pub least-most : (f : ℕ → ℕ) (b y : ℕ) (ys : List ℕ) → ((x : ℕ) → has x (y ∷ ys) ≡ true → b ≤ f x) → b ≤ least (map f (y ∷ ys))
unfolding least
least-most f b y [] most = most y (has-here y y [] refl)
least-most f b y (z ∷ zs) most = omega (arith, most y (has-here y y (z ∷ zs) refl), least-most f b z zs (λ x m. most x (has-there x y (z ∷ zs) m)))

least-alike : (f : ℕ → ℕ) (xs ys : List ℕ) → AreAlike xs ys → least (map f xs) ≡ least (map f ys)
least-alike f [] [] alike = refl
least-alike f [] (y ∷ ys) alike = absurd (not-alike y ys alike)
least-alike f (x ∷ xs) [] alike = absurd (not-alike x xs (alike-turned (x ∷ xs) [] alike))
least-alike f (x ∷ xs) (y ∷ ys) alike =
    let one = least-most f (least (map f (y ∷ ys))) x xs (λ z m. least-in f z (y ∷ ys) (sym (alike z) ∙ m)) in
    let two = least-most f (least (map f (x ∷ xs))) y ys (λ z m. least-in f z (x ∷ xs) (alike z ∙ m)) in
    omega arith

pub spread-alike : (I : Draft) (xs ys : List ℕ) → AreAlike xs ys → age_spread I xs ≡ age_spread I ys
spread-alike I xs ys alike =
    let high = greatest-alike (λ x. (person_of I x).age_group) xs ys alike in
    let low = least-alike (λ x. (person_of I x).age_group) xs ys alike in
    rw (high, low) refl

-- ---- genders

abbrev differ : Draft → ℕ → ℕ → Bool
differ I x y = not (bytes_eq (gender_of I x) (gender_of I y))

same-from : (I : Draft) (x y : ℕ) → differ I x y ≡ false → gender_of I x ≡ gender_of I y
same-from I x y e = (bytes_eq-Decides (gender_of I x) (gender_of I y)).0 (turned (bytes_eq (gender_of I x) (gender_of I y)) e)
  where
    turned : (b : Bool) → not b ≡ false → b ≡ true
    turned true h = refl
    turned false h = absurd (cc)

same-to : (I : Draft) (x y : ℕ) → gender_of I x ≡ gender_of I y → differ I x y ≡ false
same-to I x y e = ap not ((bytes_eq-Decides (gender_of I x) (gender_of I y)).1 e)

none-of : (q : ℕ → Bool) (x : ℕ) (xs : List ℕ) → list_any q xs ≡ false → has x xs ≡ true → q x ≡ false
none-of q x [] none m = absurd (cc)
none-of q x (y ∷ ys) none m =
    let parts = or_parts (q y) (list_any q ys) none in
    elim (has-cases x y ys m) [ inl e ↦ ap q (sym e) ∙ parts.0 | inr there ↦ none-of q x ys parts.1 there ]

none-from : (q : ℕ → Bool) (xs : List ℕ) → ((x : ℕ) → has x xs ≡ true → q x ≡ false) → list_any q xs ≡ false
none-from q [] each = refl
none-from q (y ∷ ys) each = or_from (q y) (list_any q ys) (each y (has-here y y ys refl)) (none-from q ys (λ x m. each x (has-there x y ys m)))

-- all have one gender
abbrev pub HaveOne : Draft → List ℕ → Type 0
HaveOne I xs = (x y : ℕ) → has x xs ≡ true → has y xs ≡ true → gender_of I x ≡ gender_of I y

pub one-from : (I : Draft) (xs : List ℕ) → genders_differ I xs ≡ false → HaveOne I xs
one-from I [] e x y m n = absurd (cc)
one-from I (z ∷ zs) e x y m n = sym (first x m) ∙ first y n
  where
    first : (w : ℕ) → has w (z ∷ zs) ≡ true → gender_of I z ≡ gender_of I w
    first w h = elim (has-cases w z zs h) [ inl same ↦ ap (gender_of I) same | inr there ↦ same-from I z w (none-of (differ I z) w zs e there) ]

pub one-to : (I : Draft) (xs : List ℕ) → HaveOne I xs → genders_differ I xs ≡ false
one-to I [] one = refl
one-to I (z ∷ zs) one = none-from (differ I z) zs (λ w m. same-to I z w (one z w (has-here z z zs refl) (has-there w z zs m)))

alike-one : (I : Draft) (xs ys : List ℕ) → AreAlike xs ys → genders_differ I xs ≡ false → genders_differ I ys ≡ false
alike-one I xs ys alike e = one-to I ys (λ x y m n. one-from I xs e x y (alike x ∙ m) (alike y ∙ n))

pub genders-alike : (I : Draft) (xs ys : List ℕ) → AreAlike xs ys → genders_differ I xs ≡ genders_differ I ys
genders-alike I xs ys alike = elim (cases_Bool (genders_differ I xs)) [
  | inl mixed ↦ mixed ∙ sym (true_from_ne_false (genders_differ I ys) (λ e. both_ways (genders_differ I xs) (alike-one I ys xs (alike-turned xs ys alike) e) mixed))
  | inr one ↦ one ∙ sym (alike-one I xs ys alike one)
]
