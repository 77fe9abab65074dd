-- Spans of days, of shifts or of other numbers: from one on and before another.
use Rattle.std.proofs.Common.{◌≡◌, ℕ, ◌+◌, ◌*◌, ◌<◌, ◌≤◌, refl, arith, sym, ◌∙◌, Bool, true, false, inl, inr}
use Rattle.std.specs.Prelude.{◌||◌, ◌==◌, min, nat_le, nat_lt}
use Rattle.std.proofs.lemmas.Bool.{cases_Bool, cases_eq, cases_lt, eq-eqb, eqb-true, le-leb, lt-ltb, leb-true, ltb-true, and_parts, or_cases, or_left, or_right, false_from_ne_true}
use Rattle.ih_plan.specs.Presence.{day_of, covers, in_span}

pub bool-same : (x y : Bool) → (x ≡ true → y ≡ true) → (y ≡ true → x ≡ true) → x ≡ y
bool-same x y there back = elim (cases_Bool x) [
  | inl holds ↦ holds ∙ sym (there holds)
  | inr fails ↦ fails ∙ sym (false_from_ne_true y (λ h. let e : false ≡ true = sym fails ∙ back h in absurd cc))
]

pub span-true : (a b i : ℕ) → a ≤ i → i < b → in_span a b i ≡ true
span-true a b i low high = rw (le-leb a i low, lt-ltb i b high) refl

pub span-inside : (a b i : ℕ) → in_span a b i ≡ true → (a ≤ i) × (i < b)
span-inside a b i h = let parts = and_parts (nat_le a i) (nat_lt i b) h in (leb-true a i parts.0, ltb-true i b parts.1)

-- what is before the first or behind the last isn't in the span
pub span-outside : (a b i : ℕ) → (a ≤ i → i < b → ⊥) → in_span a b i ≡ false
span-outside a b i out = false_from_ne_true (in_span a b i) (λ h. let e = span-inside a b i h in out e.0 e.1)

-- nothing is from a number on and before it
pub span-none : (a i : ℕ) → in_span a a i ≡ false
span-none a i = span-outside a a i (λ low high. omega arith)

-- nor is a number before itself
pub span-past : (a b : ℕ) → in_span a b b ≡ false
span-past a b = span-outside a b b (λ low high. omega arith)

-- one more
pub span-more : (a b i : ℕ) → a ≤ b → in_span a (b + 1) i ≡ (in_span a b i || (b == i))
span-more a b i order =
    bool-same (in_span a (b + 1) i) (in_span a b i || (b == i))
    (λ h. let e = span-inside a (b + 1) i h in elim (cases_eq b i) [
      | inl last ↦ or_right (in_span a b i) (b == i) (eq-eqb b i last)
      | inr before ↦ or_left (in_span a b i) (b == i) (span-true a b i e.0 (elim (cases_lt i b) [
        | inl below ↦ below
        | inr above ↦ absurd (before (omega arith))
      ]))
    ])
    (λ h. elim (or_cases (in_span a b i) (b == i) h) [
      | inl inside ↦ let e = span-inside a b i inside in span-true a (b + 1) i e.0 (omega arith)
      | inr last ↦ let e = eqb-true b i last in span-true a (b + 1) i (omega arith) (omega arith)
    ])

-- within the horizon a stay has the days before its end or the horizon's, whichever comes first
pub span-covers : (a n days d : ℕ) → d < days → in_span a (min (a + n) days) d ≡ covers a n d
span-covers a n days d inside =
    bool-same (in_span a (min (a + n) days) d) (covers a n d)
    (λ h. let e = span-inside a (min (a + n) days) d h in span-true a (a + n) d e.0 (omega arith))
    (λ h. let e = span-inside a (a + n) d h in span-true a (min (a + n) days) d e.0 (omega arith))

-- a span of days is one of shifts
pub span-shifts : (a b k : ℕ) → in_span (3 * a) (3 * b) k ≡ in_span a b (day_of k)
span-shifts a b k =
    bool-same (in_span (3 * a) (3 * b) k) (in_span a b (day_of k))
    (λ h. let e = span-inside (3 * a) (3 * b) k h in span-true a b (day_of k) (omega arith) (omega arith))
    (λ h. let e = span-inside a b (day_of k) h in span-true (3 * a) (3 * b) k (omega arith) (omega arith))

-- a counted shift of a stay is on one of its days
pub shift-covered : (a n days k : ℕ) → 3 * a ≤ k → k < 3 * min (a + n) days → covers a n (day_of k) ≡ true
shift-covered a n days k begun below = span-true a (a + n) (day_of k) (omega arith) (omega arith)
