-- Membership, and lists in which no number stands twice.
use Rattle.std.proofs.Common.{◌≡◌, ℕ, zero, suc, ◌+◌, ◌<◌, ◌≤◌, refl, arith, sym, ap, ◌∙◌, Bool, true, false, List, [], ◌∷◌, ◌++◌, inl, inr, Option, Some, None, length}
use Rattle.std.specs.Prelude.{◌||◌, ◌==◌, ◌⊎◌, if◌then◌else◌}
use Rattle.std.proofs.lemmas.Bool.{cases_eq, cases_Bool, eq-eqb, ne_eqb, eqb-true, eqb-false, or_cases, or_parts, or_from, or_left, or_right, both_ways}
use Rattle.ih_links.specs.Lists.{has, without, IsOnce, is_at}

pub has-here : (x y : ℕ) (ys : List ℕ) → y ≡ x → has x (y ∷ ys) ≡ true
has-here x y ys e = or_left (y == x) (has x ys) (eq-eqb y x e)

pub has-there : (x y : ℕ) (ys : List ℕ) → has x ys ≡ true → has x (y ∷ ys) ≡ true
has-there x y ys e = or_right (y == x) (has x ys) e

pub has-cases : (x y : ℕ) (ys : List ℕ) → has x (y ∷ ys) ≡ true → (y ≡ x) ⊎ (has x ys ≡ true)
has-cases x y ys h = elim (or_cases (y == x) (has x ys) h) [ inl e ↦ inl (eqb-true y x e) | inr e ↦ inr e ]

pub lacks : (x y : ℕ) (ys : List ℕ) → has x (y ∷ ys) ≡ false → (y ≡ x → ⊥) × (has x ys ≡ false)
lacks x y ys h = let p = or_parts (y == x) (has x ys) h in (eqb-false y x p.0, p.1)

pub lacks-from : (x y : ℕ) (ys : List ℕ) → (y ≡ x → ⊥) → has x ys ≡ false → has x (y ∷ ys) ≡ false
lacks-from x y ys n h = or_from (y == x) (has x ys) (ne_eqb y x n) h

pub apart : (x y : ℕ) (ys : List ℕ) → has x ys ≡ true → has y ys ≡ false → x ≡ y → ⊥
apart x y ys h n e = both_ways (has y ys) n (rw (← e) h)

pub has-append : (x : ℕ) (xs : List ℕ) (n : ℕ) → has x (xs ++ n ∷ []) ≡ (has x xs || (n == x))
has-append x [] n = by_case (n == x)
  where
    by_case : (b : Bool) → (b || false) ≡ (false || b)
    by_case true = refl
    by_case false = refl
has-append x (y ∷ ys) n = by_case (y == x) (has-append x ys n)
  where
    by_case : (b : Bool) → has x (ys ++ n ∷ []) ≡ (has x ys || (n == x)) → (b || has x (ys ++ n ∷ [])) ≡ ((b || has x ys) || (n == x))
    by_case true e = refl
    by_case false e = e

pub once-append : (xs : List ℕ) (n : ℕ) → IsOnce xs → has n xs ≡ false → IsOnce (xs ++ n ∷ [])
once-append [] n o h = (refl, tt)
once-append (x ∷ xs) n o h =
    let p = lacks n x xs h in
    (has-append x xs n ∙ or_from (has x xs) (n == x) o.0 (ne_eqb n x (λ e. p.0 (sym e))), once-append xs n o.1 p.1)

pub without-here : (n : ℕ) (x : ℕ) (xs : List ℕ) → x ≡ n → without n (x ∷ xs) ≡ without n xs
without-here n x xs e = let t = eq-eqb x n e in by_case (x == n) t
  where
    by_case : (b : Bool) → b ≡ true → (if b then without n xs else x ∷ without n xs) ≡ without n xs
    by_case true _ = refl
    by_case false h = absurd (cc)

pub without-there : (n : ℕ) (x : ℕ) (xs : List ℕ) → (x ≡ n → ⊥) → without n (x ∷ xs) ≡ x ∷ without n xs
without-there n x xs e = let t = ne_eqb x n e in by_case (x == n) t
  where
    by_case : (b : Bool) → b ≡ false → (if b then without n xs else x ∷ without n xs) ≡ x ∷ without n xs
    by_case true h = absurd (cc)
    by_case false _ = refl

pub without-none : (n : ℕ) (xs : List ℕ) → has n xs ≡ false → without n xs ≡ xs
without-none n [] h = refl
without-none n (x ∷ xs) h =
    let p = lacks n x xs h in
    without-there n x xs p.0 ∙ ap (λ ys. x ∷ ys) (without-none n xs p.1)

pub has-without_self : (n : ℕ) (xs : List ℕ) → has n (without n xs) ≡ false
has-without_self n [] = refl
has-without_self n (x ∷ xs) = elim (cases_eq x n) [
  | inl e ↦ ap (has n) (without-here n x xs e) ∙ has-without_self n xs
  | inr ne ↦ ap (has n) (without-there n x xs ne) ∙ lacks-from n x (without n xs) ne (has-without_self n xs)
]

pub has-without_other : (x n : ℕ) (xs : List ℕ) → (x ≡ n → ⊥) → has x (without n xs) ≡ has x xs
has-without_other x n [] ne = refl
has-without_other x n (y ∷ ys) ne = elim (cases_eq y n) [
  | inl e ↦ ap (has x) (without-here n y ys e) ∙ (has-without_other x n ys ne ∙ sym (ap (λ b. b || has x ys) (ne_eqb y x (λ f. ne (sym f ∙ e)))))
  | inr other ↦ ap (has x) (without-there n y ys other) ∙ ap (λ b. (y == x) || b) (has-without_other x n ys ne)
]

pub once-without : (n : ℕ) (xs : List ℕ) → IsOnce xs → IsOnce (without n xs)
once-without n [] o = tt
once-without n (x ∷ xs) o = elim (cases_eq x n) [
  | inl e ↦ rw (without-here n x xs e) (once-without n xs o.1)
  | inr ne ↦ rw (without-there n x xs ne) (has-without_other x n xs ne ∙ o.0, once-without n xs o.1)
]

pub length-without : (n : ℕ) (xs : List ℕ) → IsOnce xs → has n xs ≡ true → length (without n xs) + 1 ≡ length xs
length-without n [] o h = absurd (cc)
length-without n (x ∷ xs) o h = elim (cases_eq x n) [
  | inl e ↦
      let gone = without-none n xs (rw (← e) o.0) in
      rw (without-here n x xs e) (rw gone (omega arith))
  | inr ne ↦ elim (has-cases n x xs h) [
    | inl e ↦ absurd (ne e)
    | inr there ↦
        let rest = length-without n xs o.1 there in
        rw (without-there n x xs ne) (omega arith)
  ]
]

-- as many numbers below n as n at most
pub length-once : (n : ℕ) (xs : List ℕ) → IsOnce xs → ((x : ℕ) → has x xs ≡ true → x < n) → length xs ≤ n
length-once n [] o below = omega arith
length-once zero (x ∷ xs) o below = absurd (let h = below x (has-here x x xs refl) in omega arith)
length-once (suc n) (x ∷ xs) o below = elim (cases_Bool (has n (x ∷ xs))) [
  | inl there ↦
      let less = length-without n (x ∷ xs) o there in
      let rest = length-once n (without n (x ∷ xs)) (once-without n (x ∷ xs) o) (lower (x ∷ xs) below) in
      omega arith
  | inr gone ↦
      let rest = length-once n (x ∷ xs) o (λ y h. let ne = apart y n (x ∷ xs) h gone in let b = below y h in omega arith) in
      omega arith
]
  where
    lower : (ys : List ℕ) → ((y : ℕ) → has y ys ≡ true → y < suc n) → (y : ℕ) → has y (without n ys) ≡ true → y < n
    lower ys b y h =
        let ne = apart y n (without n ys) h (has-without_self n ys) in
        let up = b y (sym (has-without_other y n ys ne) ∙ h) in
        omega arith

pub is_at-true : (h : ℕ) (o : Option ℕ) → is_at h o ≡ true → o ≡ Some h
is_at-true h None e = absurd (cc)
is_at-true h (Some g) e = ap (λ k. Some k) (eqb-true g h e)
