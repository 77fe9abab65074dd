-- Texts of numbers, digit by digit.
use Rattle.std.proofs.Common.{◌≡◌, ℕ, zero, suc, ◌+◌, ◌-◌, ◌*◌, ◌<◌, ◌≤◌, ◌^◌, sym, ◌∙◌, ap, arith, List, length, take, drop, get_or, decimal, lit<, ℤ, pos, negsuc}
use Rattle.std.specs.Fmt.{signed_decimal}
use Rattle.std.specs.Int.{IsInRange}
use Rattle.std.proofs.lemmas.Int.{ints}
use Rattle.ih_journal.specs.Pieces.{IsSmall}
use Rattle.std.specs.Char.{digit_value}
use Rattle.std.specs.Str.Parse.{IsNumeral, AllDigits, digits_value}
use Rattle.std.proofs.lemmas.Str.{digit_value_digit}
use Rattle.std.proofs.lemmas.Str.Parse.{IsNumeralModel, numerals_by_value, tells_digits, digit_at, digits_value-take-le}
use Rattle.std.proofs.lemmas.Int.Digits.{digits_value_more, digits_more}
use Rattle.std.proofs.lemmas.Fmt.{decimal_is_IsNumeral, decimal-digits_value, first_decimal, decimal_digit}

pub own : IsNumeralModel (AllDigits 10) (digits_value 10)
own = numerals_by_value (AllDigits 10) tells_digits

-- a byte that is no digit
pub no_digit : (bs : List ℕ) (i : ℕ) → i < length bs → (IsInRange 48 57 (get_or bs i 0) → ⊥) → IsNumeral 10 bs → ⊥
no_digit bs i h not_digit numeral = not_digit (digit_at bs i numeral.1 h)

-- one digit more
pub digit_more : (bs : List ℕ) (i : ℕ) → i < length bs → IsInRange 48 57 (get_or bs i 0)
    → digits_value 10 (take (i + 1) bs) ≡ digits_value 10 (take i bs) * 10 + (get_or bs i 0 - 48)
digit_more bs i h digit =
    let more = digits_value_more 10 bs i h in
    let value = digit_value_digit (get_or bs i 0) digit in
    omega (arith, more, value, digit.0)

pub digits_longer : (bs : List ℕ) (i : ℕ) → i < length bs → IsInRange 48 57 (get_or bs i 0) → AllDigits 10 (take i bs) → AllDigits 10 (take (i + 1) bs)
digits_longer bs i h digit all =
    let value = digit_value_digit (get_or bs i 0) digit in
    let small : digit_value (get_or bs i 0) < 10 = omega (arith, value, digit.0, digit.1) in
    digits_more 10 bs i h all small

-- the digits so far are past 64 bits already
pub too_large : (bs : List ℕ) (i : ℕ) → i < length bs → IsInRange 48 57 (get_or bs i 0)
    → 2 ^ 64 ≤ digits_value 10 (take i bs) * 10 + (get_or bs i 0 - 48) → digits_value 10 bs < 2 ^ 64 → ⊥
too_large bs i h digit large small =
    let more = digit_more bs i h digit in
    let below = digits_value-take-le 10 bs (i + 1) (omega arith) in
    omega (arith, more, below)

-- digits without a leading zero are the text of their value
pub number_text : (bs : List ℕ) (n : ℕ) → IsNumeral 10 bs → n ≡ digits_value 10 bs → n < 2 ^ 64 → (get_or bs 0 0 ≡ 48 → length bs ≡ 1) → bs ≡ decimal n
number_text bs n numeral is small first =
    let value : digits_value 10 bs < 2 ^ 64 = rw (sym is) small in
    rw is (sym (decimal-digits_value own bs numeral.1 numeral.0 first value))

-- what the text of a number is
pub text_number : (bs : List ℕ) (n : ℕ) → n < 2 ^ 64 → bs ≡ decimal n → IsNumeral 10 bs × (digits_value 10 bs ≡ n)
text_number bs n small is = rw is (decimal_is_IsNumeral n small)

-- it has no leading zero
pub text_no_zero : (bs : List ℕ) (n : ℕ) → n < 2 ^ 64 → bs ≡ decimal n → 1 < length bs → get_or bs 0 0 ≡ 48 → ⊥
text_no_zero bs zero small is long first = let one = ap length (is ∙ decimal_digit 0 (lit< tt)) in omega (arith, one)
text_no_zero bs (suc n) small is long first =
    let digit = first_decimal (suc n) (omega arith) small in
    let same = ap (λ (ds : List ℕ). get_or ds 0 0) is in
    omega (arith, digit, same)

-- ---- signed numbers

digit_first : (bs : List ℕ) (n : ℕ) → n < 2 ^ 64 → bs ≡ decimal n → get_or bs 0 0 ≡ 45 → ⊥
digit_first bs n small is minus =
    let numeral = (text_number bs n small is).0 in
    let digit = digit_at bs 0 numeral.1 numeral.0 in
    omega (arith, digit.0, minus)

-- the text of a small number that begins with a minus is that of a number above 0 behind it
pub minus_text : (bs : List ℕ) (z : ℤ) → IsSmall z → get_or bs 0 0 ≡ 45 → bs ≡ signed_decimal z
    → (n : ℕ) × (1 ≤ n) × (n ≤ 10 ^ 11) × (drop 1 bs ≡ decimal n)
minus_text bs (pos n) small minus is = let most = small.1 in absurd (digit_first bs n (omega (arith, ints, most)) is minus)
minus_text bs (negsuc n) small minus is = let least = small.0 in (suc n, omega arith, omega (arith, ints, least), ap (drop 1) is)
