-- Marks on the theatres that were met.
use Rattle.std.proofs.Common.{◌≡◌, ℕ, zero, suc, ◌+◌, ◌-◌, ◌*◌, ◌/◌, ◌%◌, ◌^◌, ◌<◌, ◌≤◌, refl, arith, add-one, ap, ◌∙◌, sym, Bool, true, false, List, [], ◌∷◌, ◌++◌, bit_or, w64, Option, None, inl, inr}
use Rattle.std.specs.Prelude.{◌||◌, ◌==◌, map, option_map, slice_index_or, if◌then◌else◌}
use Rattle.std.specs.Int.{bit_at}
use Rattle.std.specs.Int.Count.{ones}
use Rattle.std.proofs.lemmas.Bool.{cases_eq, eq-eqb, ne_eqb}
use Rattle.std.proofs.lemmas.Nat.{ones_cat, shr_below}
use Rattle.std.proofs.lemmas.Nat.Bits.{bit_at-zero, bit_at-suc, bit_at_lowest, bit_at_set_same, bit_at_set_other}
use Rattle.ih_tables.specs.declared.ids.TheatreNo.{TheatreNo}
use Rattle.ih_links.specs.Lists.{without}
use Rattle.ih_links.proofs.Members.{without-here, without-there}
use Rattle.std.specs.List.{list_any}
use Rattle.std.proofs.Math.Bool.{or-false}
use Rattle.ih_plan.specs.Sums.{bit, count_below, sum_below}
use Rattle.ih_plan.specs.Costs.{is_number}
use Rattle.ih_plan.proofs.SumLemmas.{sum_below-same, sum_below-zero, sum_below-more}
use Rattle.ih_theatres.specs.Days.{theatre_at}
use Rattle.ih_theatres.specs.Marks.{is_marked, AreBelow}

-- ---- one mark more

-- no number is marked yet
pub unmarked : (i : ℕ) → is_marked 0 i ≡ false
unmarked i = ap (λ b. b == 1) (bit_at-zero i)

pub marked-more : (marks m : ℕ) → m < 64 → (i : ℕ) → is_marked (bit_or marks (1 * 2 ^ m % 2 ^ 64)) i ≡ (is_marked marks i || (m == i))
marked-more marks m few i = elim (cases_eq i m) [
  | inl same ↦ rw (same, bit_at_set_same w64 marks m few, eq-eqb m m refl) (any (bit_at marks m == 1))
  | inr other ↦ rw (bit_at_set_other w64 marks m few i other, ne_eqb m i (λ e. other (sym e))) (sym (or-false (bit_at marks i == 1)))
]
  where
    any : (b : Bool) → true ≡ (b || true)
    any true = refl
    any false = refl

-- ---- how many are marked

count-first : (n : ℕ) (f : ℕ → ℕ) → sum_below (suc n) f ≡ f 0 + sum_below n (λ i. f (suc i))
unfolding sum_below
count-first zero f = omega arith
count-first (suc n) f = omega (arith, count-first n f)

-- the lowest bit, as a number
lowest : (marks : ℕ) → bit (is_marked marks 0) ≡ marks % 2
lowest marks = ap (λ b. bit (b == 1)) (bit_at_lowest marks) ∙ below_two (marks % 2) (omega arith)
  where
    below_two : (r : ℕ) → r < 2 → bit (r == 1) ≡ r
    below_two zero h = refl
    below_two (suc zero) h = refl
    below_two (suc (suc r)) h = absurd (omega arith)

ones-below_two : (r : ℕ) → r < 2 → ones r ≡ r
unfolding ones
ones-below_two zero h = refl
ones-below_two (suc zero) h = refl
ones-below_two (suc (suc r)) h = absurd (omega arith)

ones-marked : (d marks : ℕ) → marks < 2 ^ d → ones marks ≡ count_below d (is_marked marks)
ones-marked zero marks small = let none : marks ≡ 0 = omega arith in rw none (ones-below_two 0 (omega arith) ∙ sym (sum_below-zero (λ i. bit (is_marked 0 i))))
ones-marked (suc d) marks small =
    let halves : marks / 2 * 2 + marks % 2 ≡ marks = omega arith in
    let apart : ones (marks / 2 * 2 + marks % 2) ≡ ones (marks / 2) + ones (marks % 2) = ones_cat 1 (marks / 2) (marks % 2) (omega arith) in
    let one = ones-below_two (marks % 2) (omega arith) in
    let rest = ones-marked d (marks / 2) (shr_below marks d 1 (rw add-one small)) in
    let shifted = sum_below-same d (λ i. bit (is_marked (marks / 2) i)) (λ i. bit (is_marked marks (suc i))) (λ i h. ap (λ b. bit (b == 1)) (sym (bit_at-suc marks i))) in
    let first = count-first d (λ i. bit (is_marked marks i)) in
    let own = lowest marks in
    let whole = ap ones halves in
    omega arith

count-few : (n k : ℕ) (marks : ℕ) → AreBelow n marks → count_below (k + n) (is_marked marks) ≡ count_below n (is_marked marks)
count-few n zero marks none = ap (λ m. count_below m (is_marked marks)) (omega arith)
count-few n (suc k) marks none =
    let up : suc k + n ≡ (k + n) + 1 = omega arith in
    let more = ap (λ m. count_below m (is_marked marks)) up ∙ sum_below-more (k + n) (λ i. bit (is_marked marks i)) in
    let last : bit (is_marked marks (k + n)) ≡ 0 = ap bit (none (k + n) (omega arith)) in
    let rest = count-few n k marks none in
    omega arith

pub count-marked : (marks d n : ℕ) → marks < 2 ^ d → n ≤ d → AreBelow n marks → ones marks ≡ count_below n (is_marked marks)
count-marked marks d n fits few none =
    let all : d ≡ (d - n) + n = omega arith in
    ones-marked d marks fits ∙ (ap (λ m. count_below m (is_marked marks)) all ∙ count-few n (d - n) marks none)

-- ---- the theatres of patients

-- The marks are on the theatres of these patients.
abbrev pub AreMet : ℕ → (ℕ → Option ℕ) → List ℕ → Type 0
AreMet marks f xs = (t : ℕ) → is_marked marks t ≡ list_any (λ o. is_number o t) (map f xs)

any-more : {A : Type 0} (q : A → Bool) (f : ℕ → A) (xs : List ℕ) (x : ℕ) → list_any q (map f (xs ++ x ∷ [])) ≡ (list_any q (map f xs) || q (f x))
any-more q f [] x = by_case (q (f x))
  where
    by_case : (b : Bool) → (b || false) ≡ (false || b)
    by_case true = refl
    by_case false = refl
any-more q f (y ∷ ys) x = by_case (q (f y)) (any-more q f ys x)
  where
    by_case : (b : Bool) → list_any q (map f (ys ++ x ∷ [])) ≡ (list_any q (map f ys) || q (f x))
        → (b || list_any q (map f (ys ++ x ∷ []))) ≡ ((b || list_any q (map f ys)) || q (f x))
    by_case true e = refl
    by_case false e = e

-- a patient's theatre is marked
pub met-more : (marks now : ℕ) (f : ℕ → Option ℕ) (xs : List ℕ) (x : ℕ) → AreMet marks f xs
    → ((t : ℕ) → is_marked now t ≡ (is_marked marks t || is_number (f x) t)) → AreMet now f (xs ++ x ∷ [])
met-more marks now f xs x met each t =
    each t ∙ ap (λ b. b || is_number (f x) t) (met t) ∙ sym (any-more (λ o. is_number o t) f xs x)

-- the numbers that are marked are as many as those that were met
pub count-met : (n : ℕ) (marks : ℕ) (met : ℕ → Bool) → ((i : ℕ) → is_marked marks i ≡ met i) → count_below n (is_marked marks) ≡ count_below n met
count-met n marks met e = sum_below-same n (λ i. bit (is_marked marks i)) (λ i. bit (met i)) (λ i h. ap bit (e i))

-- ---- all patients but one

-- the theatre of patient x, and none of p
abbrev pub other_theatre : List (Option TheatreNo) → ℕ → ℕ → Option ℕ
other_theatre theatres p x = option_map (λ (t : TheatreNo). t.0) (if x == p then None else slice_index_or theatres x None)

pub met-without : (theatres : List (Option TheatreNo)) (p : ℕ) (xs : List ℕ) (t : ℕ)
    → list_any (λ o. is_number o t) (map (other_theatre theatres p) xs) ≡ list_any (λ o. is_number o t) (map (theatre_at theatres) (without p xs))
met-without theatres p [] t = refl
met-without theatres p (x ∷ xs) t = elim (cases_eq x p) [
  | inl e ↦
      here true (eq-eqb x p e)
      ∙ (met-without theatres p xs t ∙ ap (λ ys. list_any (λ o. is_number o t) (map (theatre_at theatres) ys)) (sym (without-here p x xs e)))
  | inr ne ↦
      here false (ne_eqb x p ne)
      ∙ (ap (λ b. is_number (theatre_at theatres x) t || b) (met-without theatres p xs t)
      ∙ ap (λ ys. list_any (λ o. is_number o t) (map (theatre_at theatres) ys)) (sym (without-there p x xs ne)))
]
  where
    here : (b : Bool) → (x == p) ≡ b → list_any (λ o. is_number o t) (map (other_theatre theatres p) (x ∷ xs))
        ≡ (is_number (option_map (λ (m : TheatreNo). m.0) (if b then None else slice_index_or theatres x None)) t || list_any (λ o. is_number o t) (map (other_theatre theatres p) xs))
    here b e = ap (λ c. is_number (option_map (λ (m : TheatreNo). m.0) (if c then None else slice_index_or theatres x None)) t || list_any (λ o. is_number o t) (map (other_theatre theatres p) xs)) e
