-- Numbers are all equal exactly where so many times the sum of their squares is the square of their sum: the one is the
-- other and the squares of all their differences.
use Rattle.std.proofs.Common.{◌≡◌, ℕ, zero, suc, ◌+◌, ◌-◌, ◌*◌, refl, arith, sym, ap, subst, ◌∙◌, true, List, [], ◌∷◌, length, inl, inr}
use Rattle.std.specs.Prelude.{sum_by}
use Rattle.std.proofs.lemmas.Bool.{cases_lt}
use Rattle.std.proofs.lemmas.List.Sums.{sum_by-cons}
use Rattle.ih_links.specs.Lists.{has}
use Rattle.ih_links.proofs.Members.{has-here, has-there, has-cases}

-- how far two numbers are apart
abbrev gap : ℕ → ℕ → ℕ
gap a b = (a - b) + (b - a)

gap-up : (a t : ℕ) → a * a + (a + t) * (a + t) ≡ 2 * (a * (a + t)) + gap a (a + t) * gap a (a + t)
gap-up a t = let e : gap a (a + t) ≡ t = omega arith in rw e (omega arith)

gap-turned : (a b : ℕ) → gap a b ≡ gap b a
gap-turned a b = omega arith

gap-square : (a b : ℕ) → a * a + b * b ≡ 2 * (a * b) + gap a b * gap a b
gap-square a b = elim (cases_lt a b) [
  | inl less ↦ let e : a + (b - a) ≡ b = omega arith in subst (λ c. a * a + c * c ≡ 2 * (a * c) + gap a c * gap a c) e (gap-up a (b - a))
  | inr more ↦
      let e : b + (a - b) ≡ a = omega arith in
      let turned = subst (λ c. b * b + c * c ≡ 2 * (b * c) + gap b c * gap b c) e (gap-up b (a - b)) in
      rw (gap-turned a b) (omega (arith, turned))
]

gap-none : (a b : ℕ) → gap a b * gap a b ≡ 0 → a ≡ b
gap-none a b e = none (gap a b) refl e
  where
    none : (g : ℕ) → g ≡ gap a b → g * g ≡ 0 → a ≡ b
    none zero is e = omega arith
    none (suc g) is e = absurd (omega arith)

gap-same : (a b : ℕ) → a ≡ b → gap a b * gap a b ≡ 0
gap-same a b e = let g : gap a b ≡ 0 = omega arith in rw g refl

module _ (f : ℕ → ℕ) where
  abbrev squares : List ℕ → ℕ
  squares xs = sum_by (λ x. f x * f x) xs

  -- how far each of the numbers is from one, squared and summed
  apart : ℕ → List ℕ → ℕ
  apart x [] = 0
  apart x (y ∷ ys) = gap (f y) (f x) * gap (f y) (f x) + apart x ys

  -- the same of all pairs
  all_apart : List ℕ → ℕ
  all_apart [] = 0
  all_apart (x ∷ xs) = apart x xs + all_apart xs

  apart-is : (x : ℕ) (ys : List ℕ) → squares ys + length ys * (f x * f x) ≡ 2 * (sum_by f ys * f x) + apart x ys
  unfolding apart
  apart-is x [] = omega arith
  apart-is x (y ∷ ys) =
      rw (sum_by-cons (λ z. f z * f z) y ys, sum_by-cons f y ys) (omega (arith, apart-is x ys, gap-square (f y) (f x)))

  squares-are : (xs : List ℕ) → length xs * squares xs ≡ sum_by f xs * sum_by f xs + all_apart xs
  unfolding all_apart
  squares-are [] = omega arith
  squares-are (x ∷ xs) =
      rw (sum_by-cons (λ z. f z * f z) x xs, sum_by-cons f x xs) (omega (arith, squares-are xs, apart-is x xs))

  -- those that are nowhere apart from one are all like it
  apart-none : (x : ℕ) (ys : List ℕ) → apart x ys ≡ 0 → (y : ℕ) → has y ys ≡ true → f y ≡ f x
  unfolding apart
  apart-none x [] e y there = absurd (cc)
  apart-none x (z ∷ zs) e y there = elim (has-cases y z zs there) [
    | inl same ↦ ap f (sym same) ∙ gap-none (f z) (f x) (omega arith)
    | inr later ↦ apart-none x zs (omega arith) y later
  ]

  apart-same : (x : ℕ) (ys : List ℕ) → ((y : ℕ) → has y ys ≡ true → f y ≡ f x) → apart x ys ≡ 0
  unfolding apart
  apart-same x [] same = refl
  apart-same x (y ∷ ys) same = omega (arith, gap-same (f y) (f x) (same y (has-here y y ys refl)), apart-same x ys (λ z there. same z (has-there z y ys there)))

  -- all have one number
  abbrev pub HaveOneNumber : List ℕ → Type 0
  HaveOneNumber xs = (x y : ℕ) → has x xs ≡ true → has y xs ≡ true → f x ≡ f y

  pub squares-from : (xs : List ℕ) → HaveOneNumber xs → length xs * squares xs ≡ sum_by f xs * sum_by f xs
  unfolding all_apart
  squares-from xs one = omega (arith, squares-are xs, nowhere xs one)
    where
      nowhere : (xs : List ℕ) → HaveOneNumber xs → all_apart xs ≡ 0
      nowhere [] one = refl
      nowhere (x ∷ xs) one =
          let here = apart-same x xs (λ y there. one y x (has-there y x xs there) (has-here x x xs refl)) in
          omega (arith, here, nowhere xs (λ y z m n. one y z (has-there y x xs m) (has-there z x xs n)))

  pub squares-to : (xs : List ℕ) → length xs * squares xs ≡ sum_by f xs * sum_by f xs → HaveOneNumber xs
  unfolding all_apart
  squares-to xs e = alike xs (omega (arith, squares-are xs, e))
    where
      alike : (xs : List ℕ) → all_apart xs ≡ 0 → HaveOneNumber xs
      alike [] none x y m n = absurd (cc)
      alike (z ∷ zs) none x y m n = like x m ∙ sym (like y n)
        where
          like : (w : ℕ) → has w (z ∷ zs) ≡ true → f w ≡ f z
          like w there = elim (has-cases w z zs there) [ inl same ↦ ap f (sym same) | inr later ↦ apart-none z zs (omega arith) w later ]
