-- A list without one of its numbers, and the list with that one there or not.
use Rattle.std.proofs.Common.{◌≡◌, ℕ, ◌+◌, ◌<◌, refl, arith, sym, ap, subst, ◌∙◌, Bool, true, false, List, [], ◌∷◌, inl, inr}
use Rattle.std.specs.Prelude.{◌||◌, ◌==◌, sum_by}
use Rattle.std.proofs.lemmas.Bool.{cases_eq, eq-eqb, ne_eqb, or_right}
use Rattle.std.proofs.Math.Bool.{or-false}
use Rattle.std.proofs.lemmas.List.Sums.{sum_by-cons}
use Rattle.ih_links.specs.Lists.{has, without, with_if, IsOnce, AreNodes}
use Rattle.ih_links.proofs.Members.{has-append, has-cases, has-without_self, has-without_other, once-append, once-without, without-here, without-there, without-none}

-- a sum over a list is what one gives and the sum over the others
pub sum-without : (f : ℕ → ℕ) (x : ℕ) (xs : List ℕ) → IsOnce xs → has x xs ≡ true → sum_by f (without x xs) + f x ≡ sum_by f xs
sum-without f x [] once there = absurd (cc)
sum-without f x (y ∷ ys) once there = elim (has-cases x y ys there) [
  | inl e ↦
      let rest : without x (y ∷ ys) ≡ ys = without-here x y ys e ∙ without-none x ys (ap (λ z. has z ys) (sym e) ∙ once.0) in
      rw (rest, sum_by-cons f y ys) (omega (arith, ap f e))
  | inr later ↦
      let ne : y ≡ x → ⊥ = λ e. let no : false ≡ true = sym once.0 ∙ (ap (λ z. has z ys) e ∙ later) in absurd (cc) in
      rw (without-there x y ys ne, sum_by-cons f y (without x ys), sum_by-cons f y ys) (omega (arith, sum-without f x ys once.1 later))
]

-- ---- x there or not, and the others

has-own : (b : Bool) (x : ℕ) (xs : List ℕ) → has x (with_if b x (without x xs)) ≡ b
has-own true x xs = has-append x (without x xs) x ∙ or_right (has x (without x xs)) (x == x) (eq-eqb x x refl)
has-own false x xs = has-without_self x xs

has-other : (b : Bool) (x y : ℕ) (xs : List ℕ) → (y ≡ x → ⊥) → has y (with_if b x (without x xs)) ≡ has y xs
has-other true x y xs ne =
    has-append y (without x xs) x
    ∙ (ap (λ e. has y (without x xs) || e) (ne_eqb x y (λ e. ne (sym e)))
    ∙ (or-false (has y (without x xs)) ∙ has-without_other y x xs ne))
has-other false x y xs ne = has-without_other y x xs ne

-- so it has just the numbers that pass, where x passes if it is there, and each other one if the list has it
pub with-each : (b : Bool) (x : ℕ) (xs : List ℕ) (passes : ℕ → Bool) → passes x ≡ b → ((y : ℕ) → (y ≡ x → ⊥) → has y xs ≡ passes y)
    → (y : ℕ) → has y (with_if b x (without x xs)) ≡ passes y
with-each b x xs passes own others y = elim (cases_eq y x) [
  | inl e ↦ subst (λ z. has z (with_if b x (without x xs)) ≡ passes z) (sym e) (has-own b x xs ∙ sym own)
  | inr ne ↦ has-other b x y xs ne ∙ others y ne
]

pub with-once : (b : Bool) (x : ℕ) (xs : List ℕ) → IsOnce xs → IsOnce (with_if b x (without x xs))
with-once true x xs once = once-append (without x xs) x (once-without x xs once) (has-without_self x xs)
with-once false x xs once = once-without x xs once

-- they are numbers below n where x is
pub with-known : {n : ℕ} (b : Bool) (x : ℕ) (xs : List ℕ) → AreNodes n xs → x < n → AreNodes n (with_if b x (without x xs))
with-known {n} b x xs known inside = record {
  below = λ y there. elim (cases_eq y x) [
    | inl e ↦ subst (λ z. z < n) (sym e) inside
    | inr ne ↦ known.below y (sym (has-other b x y xs ne) ∙ there)
  ];
  once = with-once b x xs known.once;
}
