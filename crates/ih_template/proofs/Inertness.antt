-- An escaped text has none of the signs < > and &.
use Rattle.std.proofs.Common.{◌≡◌, ◌∙◌, ℕ, arith, zero, suc, refl, sym, Bool, true, false, List, [], ◌∷◌, ◌++◌, codes, length}
use Rattle.std.specs.Prelude.{◌≢◌, ◌==◌, if◌then◌else◌, slice_index}
use Rattle.std.specs.List.{AllByRecursion}
use Rattle.std.proofs.lemmas.Bool.{eq-eqb}
use Rattle.ih_validate.specs.Report.{lines_below}
use Rattle.ih_template.specs.Escapes.{escaped, escaped_at, escaped_byte, is_separator, is_within, separator_name}

abbrev IsInert : ℕ → Type 0
IsInert b = (b ≢ 60) × ((b ≢ 62) × (b ≢ 38))

abbrev AreInert : List ℕ → Type 0
AreInert text = AllByRecursion IsInert text

both : (xs ys : List ℕ) → AreInert xs → AreInert ys → AreInert (xs ++ ys)
both [] ys h k = k
both (x ∷ xs) ys h k = (h.0, both xs ys h.1 k)

choose : (c : Bool) (xs ys : List ℕ) → AreInert xs → (c ≡ false → AreInert ys) → AreInert (if c then xs else ys)
choose true xs ys h k = h
choose false xs ys h k = k refl

apart : (b n : ℕ) → (b == n) ≡ false → b ≢ n
apart b n e = λ same. (let no : true ≡ false = sym (eq-eqb b n same) ∙ e in cc)

-- a byte that isn't compared with one of the three
plain : (b : ℕ) → (b == 60) ≡ false → (b == 62) ≡ false → (b == 38) ≡ false → IsInert b
plain b h k l = (apart b 60 h, (apart b 62 k, apart b 38 l))

byte-inert : (b : ℕ) → AreInert (escaped_byte b)
byte-inert b =
    choose (b == 38) (codes "\\u0026") _ (omega arith) (λ h38.
    choose (b == 60) (codes "\\u003c") _ (omega arith) (λ h60.
    choose (b == 62) (codes "\\u003e") _ (omega arith) (λ h62.
    (plain b h60 h62 h38, tt))))

separator-inert : (last : ℕ) → AreInert (separator_name last)
separator-inert last = choose (last == 168) (codes "\\u2028") (codes "\\u2029") (omega arith) (λ h. omega arith)

at-inert : (text : List ℕ) (i : ℕ) → AreInert (escaped_at text i)
unfolding escaped_at
at-inert text i =
    choose (is_separator text i) (separator_name _) _ (separator-inert _) (λ h.
    choose (is_within text i) [] _ tt (λ k. byte-inert (slice_index text i)))

lines-inert : (f : ℕ → List ℕ) (n : ℕ) → ((i : ℕ) → AreInert (f i)) → AreInert (lines_below n f)
unfolding lines_below
lines-inert f zero h = tt
lines-inert f (suc n) h = both (lines_below n f) (f n) (lines-inert f n h) (h n)

pub escaped-inert : (text : List ℕ) → AreInert (escaped text)
escaped-inert text = lines-inert (escaped_at text) (length text) (at-inert text)
