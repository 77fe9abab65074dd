-- The table of the texts of small numbers: three bytes for each, the text and then blanks.
use Rattle.std.proofs.Common.{◌≡◌, ℕ, zero, suc, ◌+◌, ◌*◌, ◌<◌, ◌≤◌, ◌/◌, ◌%◌, refl, sym, ap, ◌∙◌, arith, List, [], ◌∷◌, ◌++◌, append_assoc, length, take, drop, get_or, decimal, inl, inr}
use Rattle.std.specs.Prelude.{nat_lt, if◌then◌else◌}
use lib.Dec.{leb}
use mir.Val.{bool_byte}
use Rattle.std.proofs.lemmas.Bool.{cases_lt, lt-ltb, le-ltb, lt-leb, le-leb}
use Rattle.std.proofs.lemmas.Fmt.{decimal_digit, decimal_step}
use Rattle.std.proofs.lemmas.List.{length-take-le, take-take}
use Rattle.ih_journal.specs.declared.small_numbers.TheConstants.{TEXTS}

-- a number's row
unfoldable row : ℕ → List ℕ
row n =
    if nat_lt n 10 then (48 + n) ∷ 32 ∷ 32 ∷ []
    else if nat_lt n 100 then (48 + n / 10) ∷ (48 + n % 10) ∷ 32 ∷ []
    else (48 + n / 10 / 10) ∷ (48 + n / 10 % 10) ∷ (48 + n % 10) ∷ []

-- the rows of so many numbers, from n on
abbrev rows : ℕ → ℕ → List ℕ
rows zero n = []
rows (suc count) n = row n ++ rows count (suc n)

table : TEXTS ≡ rows 1000 0
unfolding row
table = refl

-- ---- a row

row-one : (n : ℕ) → n < 10 → row n ≡ (48 + n) ∷ 32 ∷ 32 ∷ []
unfolding row
row-one n h = rw (lt-ltb n 10 h) refl

row-two : (n : ℕ) → 10 ≤ n → n < 100 → row n ≡ (48 + n / 10) ∷ (48 + n % 10) ∷ 32 ∷ []
unfolding row
row-two n low high = rw (le-ltb n 10 low, lt-ltb n 100 high) refl

row-three : (n : ℕ) → 100 ≤ n → row n ≡ (48 + n / 10 / 10) ∷ (48 + n / 10 % 10) ∷ (48 + n % 10) ∷ []
unfolding row
row-three n low = rw (le-ltb n 10 (omega arith), le-ltb n 100 low) refl

row-shape : (n : ℕ) → (a : ℕ) × (b : ℕ) × (c : ℕ) × (row n ≡ a ∷ b ∷ c ∷ [])
row-shape n =
    elim (cases_lt n 10) [
      | inl one ↦ (48 + n, 32, 32, row-one n one)
      | inr low ↦ elim (cases_lt n 100) [
        | inl two ↦ (48 + n / 10, 48 + n % 10, 32, row-two n low two)
        | inr three ↦ (48 + n / 10 / 10, 48 + n / 10 % 10, 48 + n % 10, row-three n three)
      ]
    ]

first-row : (n : ℕ) (rest : List ℕ) → take 3 (row n ++ rest) ≡ row n
first-row n rest = let shape = row-shape n in rw shape.3 refl

past-row : (n k : ℕ) (rest : List ℕ) → drop (suc (suc (suc k))) (row n ++ rest) ≡ drop k rest
past-row n k rest = let shape = row-shape n in rw shape.3 refl

row-at : (count n i : ℕ) → i < count → take 3 (drop (3 * i) (rows count n)) ≡ row (n + i)
row-at zero n i h = absurd (omega arith)
row-at (suc count) n zero h = let same : n + zero ≡ n = omega arith in rw same (first-row n (rows count (suc n)))
row-at (suc count) n (suc i) h =
    let here : n + suc i ≡ suc n + i = omega arith in
    let place : 3 * suc i ≡ suc (suc (suc (3 * i))) = omega arith in
    rw (here, place, past-row n (3 * i) (rows count (suc n))) (row-at count (suc n) i (omega arith))

-- ---- how many digits

two : (n : ℕ) → 10 ≤ n → n < 100 → decimal n ≡ (48 + n / 10) ∷ (48 + n % 10) ∷ []
two n low high = rw (decimal_step n low (omega arith), decimal_digit (n / 10) (omega arith)) refl

three : (n : ℕ) → 100 ≤ n → n < 1000 → decimal n ≡ (48 + n / 10 / 10) ∷ (48 + n / 10 % 10) ∷ (48 + n % 10) ∷ []
three n low high = rw (decimal_step n (omega arith) (omega arith), two (n / 10) (omega arith) (omega arith)) refl

-- one, one more from 10 on, and one more from 100 on
pub counted : (n : ℕ) → n < 1000 → 1 + bool_byte (leb 10 n) + bool_byte (leb 100 n) ≡ length (decimal n)
counted n h =
    elim (cases_lt n 10) [
      | inl one ↦ rw (lt-leb 10 n one, lt-leb 100 n (omega arith)) (sym (ap length (decimal_digit n one)))
      | inr low ↦ elim (cases_lt n 100) [
        | inl high ↦ rw (le-leb 10 n low, lt-leb 100 n high) (sym (ap length (two n low high)))
        | inr past ↦ rw (le-leb 10 n low, le-leb 100 n past) (sym (ap length (three n past h)))
      ]
    ]

-- ---- the text of a number begins its row

digits : (n : ℕ) → n < 1000 → take (length (decimal n)) (row n) ≡ decimal n
digits n h =
    elim (cases_lt n 10) [
      | inl one ↦ rw (row-one n one, decimal_digit n one) refl
      | inr low ↦ elim (cases_lt n 100) [
        | inl high ↦ rw (row-two n low high, two n low high) refl
        | inr past ↦ rw (row-three n past, three n past h) refl
      ]
    ]

text-there : (n : ℕ) → n < 1000 → take (length (decimal n)) (take 3 (drop (3 * n) TEXTS)) ≡ decimal n
text-there n h =
    let zero-first : 0 + n ≡ n = omega arith in
    rw (table, row-at 1000 0 n h, zero-first) (digits n h)

-- ---- writing

behind : (xs row : List ℕ) (k : ℕ) → take (length xs + k) (xs ++ row) ≡ xs ++ take k row
behind [] row k = let none : length {A = ℕ} [] + k ≡ k = omega arith in rw none refl
behind (x ∷ xs) row k = let more : length (x ∷ xs) + k ≡ suc (length xs + k) = omega arith in rw more (ap (λ (ys : List ℕ). x ∷ ys) (behind xs row k))

-- the front of three bytes that stand behind the first ones
pub front-of_three : (at k : ℕ) (old new row : List ℕ) → at ≤ length old → k ≤ 3 → take (at + 3) new ≡ take at old ++ row → take (at + k) new ≡ take at old ++ take k row
front-of_three at k old new row inside few h =
    let len : length (take at old) ≡ at = length-take-le at old inside in
    sym (take-take (at + k) (at + 3) new (omega arith))
    ∙ ap (take (at + k)) h
    ∙ ap (λ m. take (m + k) (take at old ++ row)) (sym len)
    ∙ behind (take at old) row k

pub small-text : (at n : ℕ) (old new : List ℕ) → at ≤ length old → n < 1000 → length (decimal n) ≤ 3
    → take (at + 3) new ≡ take at old ++ take 3 (drop (3 * n) TEXTS) → take (at + length (decimal n)) new ≡ take at old ++ decimal n
small-text at n old new inside small few h =
    front-of_three at (length (decimal n)) old new (take 3 (drop (3 * n) TEXTS)) inside few h ∙ ap (λ (ds : List ℕ). take at old ++ ds) (text-there n small)

three-of : (xs : List ℕ) (from : ℕ) → from + 3 ≤ length xs → take 3 (drop from xs) ≡ get_or xs from 0 ∷ get_or xs (from + 1) 0 ∷ get_or xs (from + 2) 0 ∷ []
three-of [] from h = absurd (omega arith)
three-of (a ∷ []) zero h = absurd (omega arith)
three-of (a ∷ b ∷ []) zero h = absurd (omega arith)
three-of (a ∷ b ∷ c ∷ xs) zero h = refl
three-of (x ∷ xs) (suc from) h =
    let one : suc from + 1 ≡ suc (from + 1) = omega arith in
    let more : suc from + 2 ≡ suc (from + 2) = omega arith in
    rw (one, more) (three-of xs from (omega arith))

-- three bytes that are written one by one
pub three-written : (old xs : List ℕ) (from : ℕ) → from + 3 ≤ length xs
    → ((old ++ get_or xs from 0 ∷ []) ++ get_or xs (from + 1) 0 ∷ []) ++ get_or xs (from + 2) 0 ∷ [] ≡ old ++ take 3 (drop from xs)
three-written old xs from h =
    let a = get_or xs from 0 in
    let b = get_or xs (from + 1) 0 in
    let c = get_or xs (from + 2) 0 in
    append_assoc (old ++ a ∷ []) (b ∷ []) (c ∷ [])
    ∙ append_assoc old (a ∷ []) (b ∷ c ∷ [])
    ∙ ap (λ (bs : List ℕ). old ++ bs) (sym (three-of xs from h))
