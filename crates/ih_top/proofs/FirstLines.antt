-- The first line of some bytes.
use Rattle.std.proofs.Common.{◌≡◌, ◌∙◌, ℕ, ◌+◌, ◌<◌, ◌^◌, refl, sym, ap, arith, Bool, true, false, Option, Some, None, List, [], ◌∷◌, ◌++◌, append_assoc, length, take, drop, get_or}
use Rattle.std.specs.Prelude.{◌==◌, IfNone, position, nat_lt}
use Rattle.std.specs.List.{position_or_len}
use Rattle.std.proofs.lemmas.Bool.{eqb-true, ltb-false, ltb-true}
use Rattle.std.proofs.lemmas.List.{get_or-take, length-append, length-take-le}
use Rattle.std.proofs.lemmas.List.Elements.{All-from_get_or, All-head, All-tail}
use Rattle.std.proofs.lemmas.List.Sums.{fails_before_first, passes_at_first, split_at_first}
use Rattle.ih_top.specs.Below.Searches.{IsLawful, Options, ended, heading}
use Rattle.ih_journal.proofs.HeadTexts.{heading_lacks, lawful_short}
use Rattle.ih_journal.proofs.Separators.{at_none, at_some}
use Rattle.ih_top.specs.JournalLines.{HasLine, HasNoLineFeed}
use Rattle.ih_top.specs.JournalFiles.{HasNoHeading}

abbrev pub is_feed : ℕ → Bool
is_feed b = b == 10

-- bytes with a line feed begin with the line before it
pub line_here : (bytes : List ℕ) (i : ℕ) → position is_feed bytes ≡ Some i → (i < length bytes) × HasLine bytes (take i bytes) (drop (i + 1) bytes)
line_here bytes i h =
    let found = at_some (nat_lt (position_or_len is_feed bytes) (length bytes)) (position_or_len is_feed bytes) i h in
    let inside = ltb-true _ _ found.0 in
    let feed : get_or bytes (position_or_len is_feed bytes) 0 ≡ 10 = eqb-true _ _ (passes_at_first is_feed bytes 0 inside) in
    let parts : bytes ≡ take (position_or_len is_feed bytes) bytes ++ (10 ∷ drop (position_or_len is_feed bytes + 1) bytes) =
    split_at_first is_feed bytes 0 inside ∙ ap (λ b. take (position_or_len is_feed bytes) bytes ++ (b ∷ drop (position_or_len is_feed bytes + 1) bytes)) feed in
    rw (← found.1) (
      inside,
      record {
        joins = parts ∙ sym (append_assoc (take (position_or_len is_feed bytes) bytes) (10 ∷ []) (drop (position_or_len is_feed bytes + 1) bytes));
        first = All-from_get_or (λ b. (b == 10) ≡ false) (take (position_or_len is_feed bytes) bytes) 0 (λ k lt.
            let below : k < position_or_len is_feed bytes = (let len = length-take-le (position_or_len is_feed bytes) bytes (omega (arith, inside)) in omega (arith, len, lt)) in
            ap is_feed (get_or-take (position_or_len is_feed bytes) bytes k 0 below) ∙ fails_before_first is_feed bytes k 0 below);
      },
    )

-- bytes in which none is found have no line feed
pub no_line : (bytes : List ℕ) → position is_feed bytes ≡ None → HasNoLineFeed bytes
no_line bytes h =
    let past = ltb-false _ _ (at_none (nat_lt (position_or_len is_feed bytes) (length bytes)) (position_or_len is_feed bytes) h) in
    All-from_get_or (λ b. (b == 10) ≡ false) bytes 0 (λ k lt. fails_before_first is_feed bytes k 0 (omega (arith, past, lt)))

-- a line feed is one
feed_is : (10 == 10) ≡ true
feed_is = refl

not_feed : (x : ℕ) (xs : List ℕ) → HasNoLineFeed (x ∷ xs) → x ≡ 10 → ⊥
not_feed x xs lacks is =
    let other : (x == 10) ≡ false = All-head (λ b. (b == 10) ≡ false) x xs lacks in
    let clash : true ≡ false = sym feed_is ∙ (ap is_feed (sym is) ∙ other) in cc

-- bytes have one first line
pub first-apart : (a b x y : List ℕ) → HasNoLineFeed a → HasNoLineFeed b → ended a ++ x ≡ ended b ++ y → (a ≡ b) × (x ≡ y)
first-apart [] [] x y la lb h = (refl, let same : 10 ∷ x ≡ 10 ∷ y = h in cc)
first-apart [] (c ∷ b) x y la lb h = absurd (not_feed c b lb (let same : 10 ∷ x ≡ c ∷ (ended b ++ y) = h in cc))
first-apart (c ∷ a) [] x y la lb h = absurd (not_feed c a la (let same : c ∷ (ended a ++ x) ≡ 10 ∷ y = h in cc))
first-apart (c ∷ a) (d ∷ b) x y la lb h =
    let same : c ∷ (ended a ++ x) ≡ d ∷ (ended b ++ y) = h in
    let head : c ≡ d = cc in
    let tail : ended a ++ x ≡ ended b ++ y = cc in
    let rest = first-apart a b x y (All-tail (λ b. (b == 10) ≡ false) c a la) (All-tail (λ b. (b == 10) ≡ false) d b lb) tail in
    (rw (head, rest.0) refl, rest.1)

pub one-line : (bytes a b x y : List ℕ) → HasLine bytes a x → HasLine bytes b y → (a ≡ b) × (x ≡ y)
one-line bytes a b x y first second = first-apart a b x y first.first second.first (sym first.joins ∙ second.joins)

-- no line begins where there are no bytes
pub ended-some : (a x : List ℕ) → [] ≡ ended a ++ x → ⊥
ended-some a x h = let len = simp (length-append) at (ap length h) in omega (arith, len)

-- bytes without a line feed have no line
pub no-line-in : (bytes line more : List ℕ) → HasNoLineFeed bytes → HasLine bytes line more → ⊥
no-line-in bytes line more lacks is = go line bytes lacks is.joins
  where
    go : (a bs : List ℕ) → HasNoLineFeed bs → bs ≡ ended a ++ more → ⊥
    go [] [] none h = ended-some [] more h
    go [] (b ∷ bs) none h = not_feed b bs none (let same : b ∷ bs ≡ 10 ∷ more = h in cc)
    go (c ∷ a) [] none h = ended-some (c ∷ a) more h
    go (c ∷ a) (b ∷ bs) none h = go a bs (All-tail (λ b. (b == 10) ≡ false) b bs none) (let same : b ∷ bs ≡ c ∷ (ended a ++ more) = h in cc)

-- what holds where there is nothing
pub if-none : {X : Type 0} (r : Option X) (A : Type 0) → A → IfNone r A
if-none None A a = a
if-none (Some x) A a = tt

-- bytes whose first line is no heading have none
pub line-headless : (bytes line more : List ℕ) → HasLine bytes line more → ((o : Options) → IsLawful o → o.seed < 2 ^ 64 → line ≡ heading o → ⊥)
    → HasNoHeading bytes
line-headless bytes line more has never o rest lawful seed joins =
    never o lawful seed
    (one-line bytes line (heading o) more rest has (record { joins = joins; first = heading_lacks o (lawful_short o lawful seed) })).0
