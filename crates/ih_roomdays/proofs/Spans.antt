-- The greatest and the least of some numbers below 64, from a word that has their bits.
use Rattle.std.proofs.Common.{◌≡◌, ℕ, suc, ◌+◌, ◌-◌, ◌/◌, ◌^◌, ◌<◌, ◌≤◌, refl, arith, sym, ap, ◌∙◌, true, List, [], ◌∷◌, map, min, w64, inl, inr}
use Rattle.std.specs.Prelude.{◌==◌}
use Rattle.std.specs.Int.{bit_at, leading_zeros, trailing_zeros}
use Rattle.std.specs.List.{count_by}
use Rattle.std.proofs.lemmas.Bool.{cases_eq, cases_lt, eq-eqb, ne_eqb}
use Rattle.std.proofs.lemmas.List.Sums.{sum_by-cons}
use Rattle.std.proofs.lemmas.Nat.{leading_top}
use Rattle.std.proofs.lemmas.Nat.Bits.{bit_at_above, bit_at-trailing_zeros, bit_at-zero}
use Rattle.std.proofs.Math.Nat.{div-eq_of_lt-le}
use Rattle.std.proofs.Math.Bool.{cond}
use Rattle.ih_plan.specs.Sums.{greatest, least}
use Rattle.ih_links.specs.Lists.{has}
use Rattle.ih_links.proofs.Members.{has-here, has-there, has-cases}
use Rattle.ih_roomdays.proofs.Orders.{greatest-in, greatest-most, least-in, least-most}

-- the highest bit is that past the leading zeros
pub highest : (n : ℕ) → 0 < n → n < 2 ^ 64 → (j : ℕ) × (leading_zeros w64 n + (j + 1) ≡ 64) × (bit_at n j ≡ 1) × ((i : ℕ) → j < i → bit_at n i ≡ 0)
highest n some fits =
    let top = leading_top 64 n some fits in
    let j = top.0 in
    let whole : n / 2 ^ j ≡ 1 = div-eq_of_lt-le (2 ^ j) (omega (arith, top.2)) (omega (arith, top.3)) in
    (j, omega (arith, top.1), rw whole refl, λ i above. bit_at_above n (suc j) i top.3 (omega arith))

-- the zeros on both sides leave room for the highest bit
pub zeros-few : (n : ℕ) → 0 < n → n < 2 ^ 64 → leading_zeros w64 n + trailing_zeros w64 n ≤ 63
zeros-few n some fits =
    let top = highest n some fits in
    let low = bit_at-trailing_zeros w64 n some fits in
    elim (cases_lt top.0 (trailing_zeros w64 n)) [
      | inl under ↦ absurd (omega (arith, low.2 top.0 under, top.2))
      | inr fine ↦ omega (arith, top.1)
    ]

module _ (f : ℕ → ℕ) where
  abbrev count : ℕ → List ℕ → ℕ
  count a xs = count_by (λ x. f x == a) xs

  -- who has a number is counted there
  counted : (x : ℕ) (xs : List ℕ) → has x xs ≡ true → 0 < count (f x) xs
  counted x [] there = absurd (cc)
  counted x (y ∷ ys) there = rw (sum_by-cons (λ z. cond (f z == f x) 1 0) y ys) (elim (has-cases x y ys there) [
    | inl e ↦ rw (eq-eqb (f y) (f x) (ap f e)) (omega arith)
    | inr later ↦ omega (arith, counted x ys later)
  ])

  -- where any is counted, somebody has the number
  someone : (a : ℕ) (xs : List ℕ) → 0 < count a xs → (x : ℕ) × (has x xs ≡ true) × (f x ≡ a)
  someone a [] some = absurd (omega arith)
  someone a (y ∷ ys) some = elim (cases_eq (f y) a) [
    | inl e ↦ (y, has-here y y ys refl, e)
    | inr ne ↦
        let more = rw (sum_by-cons (λ z. cond (f z == a) 1 0) y ys, ne_eqb (f y) a ne) at some in
        let later = someone a ys (omega arith) in
        (later.0, has-there later.0 y ys later.1, later.2)
  ]

  module _ (xs : List ℕ) (word : ℕ) (fits : word < 2 ^ 64) (small : (x : ℕ) → f x < 64) (bits : (a : ℕ) → a < 64 → bit_at word a ≡ min 1 (count a xs)) where
    -- whose bit is set
    set : (x : ℕ) → has x xs ≡ true → bit_at word (f x) ≡ 1
    set x there = omega (arith, bits (f x) (small x), counted x xs there)

    known : (a : ℕ) → a < 64 → bit_at word a ≡ 1 → (x : ℕ) × (has x xs ≡ true) × (f x ≡ a)
    known a below one = someone a xs (omega (arith, bits a below, one))

    module _ (a : ℕ) (below : a < 64) (one : bit_at word a ≡ 1) where
      greatest-is : ((i : ℕ) → a < i → bit_at word i ≡ 0) → greatest (map f xs) ≡ a
      greatest-is none =
          let who = known a below one in
          let most = greatest-most f a xs (λ x there. elim (cases_lt a (f x)) [
            | inl above ↦ absurd (omega (arith, none (f x) above, set x there))
            | inr fine ↦ fine
          ]) in
          let some = greatest-in f who.0 xs who.1 in
          let own = who.2 in
          omega arith

      least-is : ((i : ℕ) → i < a → bit_at word i ≡ 0) → least (map f xs) ≡ a
      least-is none =
          let who = known a below one in
          let some = least-in f who.0 xs who.1 in
          let own = who.2 in
          let most = at_least who.0 xs who.1 (λ x there. elim (cases_lt (f x) a) [
            | inl under ↦ absurd (omega (arith, none (f x) under, set x there))
            | inr fine ↦ fine
          ]) in
          omega arith
        where
          at_least : (w : ℕ) (ys : List ℕ) → has w ys ≡ true → ((x : ℕ) → has x ys ≡ true → a ≤ f x) → a ≤ least (map f ys)
          at_least w [] there each = absurd (cc)
          at_least w (y ∷ ys) there each = least-most f a y ys each

    pub spread-none : word ≡ 0 → 0 ≡ greatest (map f xs) - least (map f xs)
    unfolding greatest least
    spread-none none = nobody xs refl
      where
        nobody : (ys : List ℕ) → ys ≡ xs → 0 ≡ greatest (map f ys) - least (map f ys)
        nobody [] e = refl
        nobody (y ∷ ys) e =
            absurd (omega (arith, set y (ap (has y) (sym e) ∙ has-here y y ys refl), ap (λ w. bit_at w (f y)) none, bit_at-zero (f y)))

    pub spread-some : 0 < word → 63 - leading_zeros w64 word - trailing_zeros w64 word ≡ greatest (map f xs) - least (map f xs)
    spread-some some =
        let top = highest word some fits in
        let low = bit_at-trailing_zeros w64 word some fits in
        let high_is = greatest-is top.0 (omega (arith, top.1)) top.2 top.3 in
        let low_is = least-is (trailing_zeros w64 word) low.0 low.1 low.2 in
        omega (arith, top.1)
