-- Texts that lack a separator are parted as they were joined.
use Rattle.std.proofs.Common.{◌≡◌, ◌≢◌, ℕ, suc, ◌<◌, ◌^◌, refl, sym, ◌∙◌, ap, arith, Bool, true, false, List, [], ◌∷◌, ◌++◌, map, length, decimal, All, ℤ, pos, negsuc, ◌≤◌}
use Rattle.std.specs.Prelude.{◌==◌, ◌&&◌, not, nat_le}
use Rattle.std.specs.List.{join_with_byte}
use Rattle.std.specs.Fmt.{signed_decimal}
use Rattle.std.specs.Int.{IsInRange}
use Rattle.std.specs.Str.{bytes_eq}
use Rattle.std.proofs.lemmas.Slice.Eq.{bytes_eq-Decides}
use Rattle.std.proofs.lemmas.Bool.{ne_eqb, leb-false}
use Rattle.std.proofs.lemmas.Int.{ints}
use Rattle.std.proofs.lemmas.Str.Parse.{digit_at}
use Rattle.std.proofs.lemmas.List.Elements.{All-nil, All-cons, All-head, All-tail, All-append, All-from_get_or}
use Rattle.std.proofs.lemmas.List.Splits.{slice_split_none, slice_split_at, join_with_byte-slice_split}
use Rattle.ih_journal.specs.Grammar.{parted}
use Rattle.ih_journal.specs.Names.{AreShort}
use Rattle.ih_journal.specs.Pieces.{IsSmall}
use Rattle.ih_journal.proofs.Digits.{text_number}
use Rattle.ih_journal.proofs.Separators.{parted_some}

-- no byte of the text is the separator
abbrev pub Lacks : ℕ → List ℕ → Type 0
Lacks c text = All (λ b. (b == c) ≡ false) text

-- the test that decides it for a text that is known
abbrev pub lacks : ℕ → List ℕ → Bool
lacks c [] = true
lacks c (x ∷ xs) = not (x == c) && lacks c xs

both : (a b : Bool) → (not a && b) ≡ true → (a ≡ false) × (b ≡ true)
both true b h = absurd (let no : false ≡ true = h in cc)
both false b h = (refl, h)

pub lacks_known : (c : ℕ) (text : List ℕ) → lacks c text ≡ true → Lacks c text
lacks_known c [] h = All-nil (λ b. (b == c) ≡ false)
lacks_known c (x ∷ xs) h =
    let parts = both (x == c) (lacks c xs) h in
    All-cons (λ b. (b == c) ≡ false) x xs parts.0 (lacks_known c xs parts.1)

-- a byte that stands in no number
pub record IsMark (c : ℕ) : Type 0 where
  pub digit : IsInRange 48 57 c → ⊥
  pub minus : c ≢ 45

pub lacks_decimal : (c n : ℕ) → IsMark c → n < 2 ^ 64 → Lacks c (decimal n)
lacks_decimal c n mark small =
    All-from_get_or (λ b. (b == c) ≡ false) (decimal n) 0
    (λ i h. let digit = digit_at (decimal n) i (text_number (decimal n) n small refl).0.1 h in
    ne_eqb _ c (λ e. mark.digit (let low = digit.0 in let high = digit.1 in (omega (arith, low, e), omega (arith, high, e)))))

pub lacks_signed : (c : ℕ) (z : ℤ) → IsMark c → IsSmall z → Lacks c (signed_decimal z)
lacks_signed c (pos n) mark small = let most = small.1 in lacks_decimal c n mark (omega (arith, ints, most))
lacks_signed c (negsuc n) mark small =
    let least = small.0 in
    All-cons (λ b. (b == c) ≡ false) 45 (decimal (suc n))
    (ne_eqb 45 c (λ e. mark.minus (sym e))) (lacks_decimal c (suc n) mark (omega (arith, ints, least)))

pub all_lack : {A : Type 0} (c : ℕ) (text : A → List ℕ) (P : A → Type 0) (ns : List A) → ((n : A) → P n → Lacks c (text n)) → All P ns → All (Lacks c) (map text ns)
all_lack c text P [] each all = All-nil (Lacks c)
all_lack c text P (n ∷ ns) each all =
    All-cons (Lacks c) (text n) (map text ns) (each n (All-head P n ns all)) (all_lack c text P ns each (All-tail P n ns all))

pub lacks_joined : (c s : ℕ) (xs : List (List ℕ)) → (s ≡ c → ⊥) → All (Lacks c) xs → Lacks c (join_with_byte s xs)
lacks_joined c s [] ne all = All-nil (λ b. (b == c) ≡ false)
lacks_joined c s (x ∷ []) ne all = All-head (Lacks c) x [] all
lacks_joined c s (x ∷ y ∷ ys) ne all =
    All-append (λ b. (b == c) ≡ false) x (s ∷ join_with_byte s (y ∷ ys)) (All-head (Lacks c) x (y ∷ ys) all)
    (All-cons (λ b. (b == c) ≡ false) s (join_with_byte s (y ∷ ys)) (ne_eqb s c ne) (lacks_joined c s (y ∷ ys) ne (All-tail (Lacks c) x (y ∷ ys) all)))

pub same_byte : (c : ℕ) → (c == c) ≡ true
same_byte c = grind arith

-- what was joined is parted again
pub parted_joined : (c : ℕ) (x : List ℕ) (xs : List (List ℕ)) → All (Lacks c) (x ∷ xs) → parted c (join_with_byte c (x ∷ xs)) ≡ x ∷ xs
parted_joined c x [] all = slice_split_none (λ b. b == c) x (All-head (Lacks c) x [] all)
parted_joined c x (y ∷ ys) all =
    slice_split_at (λ b. b == c) x c (join_with_byte c (y ∷ ys)) (All-head (Lacks c) x (y ∷ ys) all) (same_byte c)
    ∙ ap (λ (r : List (List ℕ)). x ∷ r) (parted_joined c y ys (All-tail (Lacks c) x (y ∷ ys) all))

-- and what was parted is joined again
pub joined_parted : (c : ℕ) (bs : List ℕ) → join_with_byte c (parted c bs) ≡ bs
joined_parted c bs = join_with_byte-slice_split c bs

-- the bytes by their pieces
pub parted_same : (c : ℕ) (a b : List ℕ) → parted c a ≡ parted c b → a ≡ b
parted_same c a b h = sym (joined_parted c a) ∙ ap (join_with_byte c) h ∙ joined_parted c b

pub parted_text : (c : ℕ) (bs : List ℕ) (xs : List (List ℕ)) → parted c bs ≡ xs → bs ≡ join_with_byte c xs
parted_text c bs xs h = sym (joined_parted c bs) ∙ ap (join_with_byte c) h

-- texts of numbers, which lack every mark
pub numbers_lack : (c : ℕ) (ns : List ℕ) → IsMark c → AreShort ns → All (Lacks c) (map decimal ns)
numbers_lack c ns mark short = all_lack c decimal (λ n. n < 2 ^ 32) ns (λ n small. lacks_decimal c n mark (omega arith)) short

pub signed_lack : (c : ℕ) (zs : List ℤ) → IsMark c → All IsSmall zs → All (Lacks c) (map signed_decimal zs)
signed_lack c zs mark small = all_lack c signed_decimal IsSmall zs (λ z one. lacks_signed c z mark one) small

pub colon : IsMark 58
colon = record { digit = λ d. let high = d.1 in omega (arith, high); minus = λ e. omega (arith, e) }

pub comma : IsMark 44
comma = record { digit = λ d. let low = d.0 in omega (arith, low); minus = λ e. omega (arith, e) }

pub dot : IsMark 46
dot = record { digit = λ d. let low = d.0 in omega (arith, low); minus = λ e. omega (arith, e) }

-- a piece and what stands behind its separator
pub cut_joined : (c : ℕ) (bs front rest : List ℕ) → parted c bs ≡ front ∷ parted c rest → bs ≡ front ++ (c ∷ rest)
cut_joined c bs front rest h =
    parted_text c bs (front ∷ parted c rest) h ∙ behind (parted c rest) (parted_some c rest) ∙ ap (λ (r : List ℕ). front ++ (c ∷ r)) (joined_parted c rest)
  where
    behind : (xs : List (List ℕ)) → 0 < length xs → join_with_byte c (front ∷ xs) ≡ front ++ (c ∷ join_with_byte c xs)
    behind [] some = absurd (omega arith)
    behind (x ∷ xs) some = refl

-- two texts that differ
pub texts_differ : (a b : List ℕ) → bytes_eq a b ≡ false → a ≡ b → ⊥
texts_differ a b known same = let no : false ≡ true = sym known ∙ (bytes_eq-Decides a b).1 same in cc

pub head_of : {A : Type 0} {x y : A} {xs ys : List A} → x ∷ xs ≡ y ∷ ys → x ≡ y
head_of h = cc

pub tail_of : {A : Type 0} {x y : A} {xs ys : List A} → x ∷ xs ≡ y ∷ ys → xs ≡ ys
tail_of h = cc

-- what is behind the first of one list that is told in two ways
pub same_tails : {A : Type 0} {x y : A} {all xs ys : List A} → all ≡ x ∷ xs → all ≡ y ∷ ys → xs ≡ ys
same_tails a b = tail_of (sym a ∙ b)

pub four_lack : (m : ℕ) (a b c d : List ℕ) → Lacks m a → Lacks m b → Lacks m c → Lacks m d → All (Lacks m) (a ∷ b ∷ c ∷ d ∷ [])
four_lack m a b c d la lb lc ld =
    All-cons (Lacks m) a (b ∷ c ∷ d ∷ []) la (All-cons (Lacks m) b (c ∷ d ∷ []) lb (All-cons (Lacks m) c (d ∷ []) lc (All-cons (Lacks m) d [] ld (All-nil (Lacks m)))))

-- ---- marks below every byte of a name or a number: the space and the line feed

abbrev pub plain : List ℕ → Bool
plain [] = true
plain (x ∷ xs) = not (nat_le x 32) && plain xs

above : (x m : ℕ) → m ≤ 32 → nat_le x 32 ≡ false → (x == m) ≡ false
above x m low h = ne_eqb x m (λ e. let past = leb-false x 32 h in omega (arith, past, e))

pub plain_lacks : (m : ℕ) (text : List ℕ) → m ≤ 32 → plain text ≡ true → Lacks m text
plain_lacks m [] low h = All-nil (λ b. (b == m) ≡ false)
plain_lacks m (x ∷ xs) low h =
    let parts = both (nat_le x 32) (plain xs) h in
    All-cons (λ b. (b == m) ≡ false) x xs (above x m low parts.0) (plain_lacks m xs low parts.1)

pub low_mark : (m : ℕ) → m ≤ 32 → IsMark m
low_mark m low = record { digit = λ d. let least = d.0 in omega (arith, low, least); minus = λ e. omega (arith, low, e) }
