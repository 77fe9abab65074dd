-- Texts parted by a separator.
use Rattle.std.proofs.Common.{ℤ, ◌≡◌, ℕ, ◌+◌, ◌<◌, refl, arith, Bool, true, false, Some, None, cond, List, [], ◌∷◌, ◌++◌, append_assoc, ap, sym, map, length, take, drop}
use Rattle.std.specs.Prelude.{◌==◌, position, nat_lt}
use Rattle.std.specs.List.{join_with_byte, position_or_len}
use Rattle.std.specs.Fmt.{signed_decimal}
use Rattle.std.proofs.lemmas.Grind.{common_steps}
use Rattle.std.proofs.lemmas.Bool.{ltb-false, ltb-true}
use Rattle.std.proofs.lemmas.List.{map-append}
use Rattle.std.proofs.lemmas.List.Sums.{fails_before_first}
use Rattle.std.proofs.lemmas.List.Splits.{slice_split_none, slice_split_first, length-slice_split}
use Rattle.ih_journal.specs.Grammar.{parted}
use Rattle.ih_journal.specs.Pieces.{marked}

-- a first piece, and each further one with the separator before it
pub joined_marked : (c : ℕ) (x : List ℕ) (xs : List (List ℕ)) → join_with_byte c (x ∷ xs) ≡ x ++ marked c xs
joined_marked c x [] = grind (arith, common_steps)
joined_marked c x (y ∷ ys) = ap (λ (r : List ℕ). x ++ (c ∷ r)) (joined_marked c y ys)

pub marked-append : (c : ℕ) (xs ys : List (List ℕ)) → marked c (xs ++ ys) ≡ marked c xs ++ marked c ys
marked-append c [] ys = refl
marked-append c (x ∷ xs) ys = rw (marked-append c xs ys) (sym (append_assoc (c ∷ x) (marked c xs) (marked c ys)))

-- signed numbers in two lists: the first, then each further one with a comma before it
pub signed-joined : (x : ℤ) (xs ys : List ℤ) → join_with_byte 44 (map signed_decimal ((x ∷ xs) ++ ys))
    ≡ signed_decimal x ++ marked 44 (map signed_decimal xs) ++ marked 44 (map signed_decimal ys)
signed-joined x xs ys =
    rw (joined_marked 44 (signed_decimal x) (map signed_decimal (xs ++ ys)), map-append, marked-append 44 (map signed_decimal xs) (map signed_decimal ys))
    (sym (append_assoc (signed_decimal x) (marked 44 (map signed_decimal xs)) (marked 44 (map signed_decimal ys))))

-- ---- the first separator

pub at_some : (b : Bool) (x i : ℕ) → cond b (Some x) None ≡ Some i → (b ≡ true) × (x ≡ i)
at_some true x i h = let same : Some x ≡ Some i = h in (refl, cc)
at_some false x i h = absurd (let no : None ≡ Some i = h in cc)

pub at_none : (b : Bool) (x : ℕ) → cond b (Some x) None ≡ None → b ≡ false
at_none true x h = absurd (let no : Some x ≡ None = h in cc)
at_none false x h = refl

pub parted_here : (c : ℕ) (bs : List ℕ) (i : ℕ) → position (λ b. b == c) bs ≡ Some i → parted c bs ≡ take i bs ∷ parted c (drop (i + 1) bs)
parted_here c bs i h =
    let found = at_some (nat_lt (position_or_len (λ b. b == c) bs) (length bs)) (position_or_len (λ b. b == c) bs) i h in
    rw (← found.1) (slice_split_first (λ b. b == c) bs 0 (ltb-true _ _ found.0))

pub parted_whole : (c : ℕ) (bs : List ℕ) → position (λ b. b == c) bs ≡ None → parted c bs ≡ bs ∷ []
parted_whole c bs h =
    let past = ltb-false _ _ (at_none (nat_lt (position_or_len (λ b. b == c) bs) (length bs)) (position_or_len (λ b. b == c) bs) h) in
    slice_split_none (λ b. b == c) bs (λ k d lt. fails_before_first (λ b. b == c) bs k d (omega (arith, past, lt)))

pub parted_some : (c : ℕ) (bs : List ℕ) → 0 < length (parted c bs)
parted_some c bs = let len = length-slice_split (λ b. b == c) bs in omega (arith, len)
