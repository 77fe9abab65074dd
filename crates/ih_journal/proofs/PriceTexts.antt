-- The texts of prices.
use Rattle.std.proofs.Common.{◌≡◌, ℕ, ◌+◌, ◌<◌, ◌^◌, refl, sym, ◌∙◌, ap, arith, List, [], ◌∷◌, ◌++◌, map, length, take, drop, get_or, All, ℤ, pos, negsuc, subst}
use Rattle.std.specs.List.{join_with_byte}
use Rattle.std.specs.Fmt.{signed_decimal}
use Rattle.std.proofs.Math.Seq.{take-append_seam, drop-append_seam}
use Rattle.std.proofs.lemmas.Grind.{common_steps}
use Rattle.std.proofs.lemmas.Int.{ints}
use lib.Signed.{mag}
use Rattle.std.proofs.lemmas.Fmt.{signed_decimal_injective}
use Rattle.std.proofs.lemmas.List.{length-append}
use Rattle.std.proofs.lemmas.List.Elements.{All-append, All-from_get_or}
use Rattle.ih_tables.specs.declared.bills.Bill.{Bill}
use Rattle.ih_tables.specs.Bills.{AreWithin}
use Rattle.ih_journal.specs.Texts.{price_text}
use Rattle.ih_journal.specs.Grammar.{parted, IsPrice}
use Rattle.ih_journal.specs.Pieces.{IsSmall}
use Rattle.ih_journal.proofs.Mapped.{map-injective}
use Rattle.ih_journal.proofs.Lacking.{parted_joined, parted_text, signed_lack, comma}

-- the seventeen numbers of a price
abbrev pub all_of : Bill → List ℤ
all_of b = b.v ++ b.s

small_from : (n : ℕ) (xs : List ℤ) → length xs ≡ n → AreWithin (10 ^ 11) n xs → All IsSmall xs
small_from n xs len within = All-from_get_or IsSmall xs (pos 0) (λ i h. within i (omega arith))

within_from : (n m : ℕ) (xs ys : List ℤ) → All IsSmall ys → ((k : ℕ) → k < n → (m + k < length ys) × (get_or xs k (pos 0) ≡ get_or ys (m + k) (pos 0))) → AreWithin (10 ^ 11) n xs
within_from n m xs ys all same k h = rw ((same k h).1) (all (m + k) (pos 0) (same k h).0)

signed_joined_parted : (zs : List ℤ) → 0 < length zs → All IsSmall zs → parted 44 (join_with_byte 44 (map signed_decimal zs)) ≡ map signed_decimal zs
signed_joined_parted [] some small = absurd (omega arith)
signed_joined_parted (z ∷ zs) some small = parted_joined 44 (signed_decimal z) (map signed_decimal zs) (signed_lack 44 (z ∷ zs) comma small)

-- what the text of a price says of its numbers
pub record IsPriced (b : Bill) (bs : List ℕ) : Type 0 where
  pub len : length (all_of b) ≡ 17
  pub small : All IsSmall (all_of b)
  pub parts : parted 44 bs ≡ map signed_decimal (all_of b)

pub price_priced : (b : Bill) (bs : List ℕ) → IsPrice b → bs ≡ price_text b → IsPriced b bs
price_priced b bs price is =
    let counts = price.counts in
    let costs = price.costs in
    let len : length (all_of b) ≡ 17 = omega (arith, length-append b.v b.s, counts, costs) in
    let small : All IsSmall (all_of b) = All-append IsSmall b.v b.s (small_from 9 b.v counts price.small.v) (small_from 8 b.s costs price.small.s) in
    record { len = len; small = small; parts = ap (parted 44) is ∙ signed_joined_parted (all_of b) (omega (arith, len)) small }

-- seventeen numbers that were read are those of a price
pub price_some : (b : Bill) (bs : List ℕ) (all : List ℤ) → length all ≡ 17 → All IsSmall all → parted 44 bs ≡ map signed_decimal all
    → b.v ≡ take 9 all → b.s ≡ drop 9 all → IsPrice b × (bs ≡ price_text b)
price_some b bs all len small parts v s =
    let whole : b.v ++ b.s ≡ all = rw (v, s) (grind (arith, common_steps)) in
    let counts : length b.v ≡ 9 = rw v (grind (arith, common_steps)) in
    let costs : length b.s ≡ 8 = rw s (grind (arith, common_steps)) in
    let low : AreWithin (10 ^ 11) 9 b.v = within_from 9 0 b.v all small (λ k h. (omega arith, rw v (grind (arith, common_steps)))) in
    let high : AreWithin (10 ^ 11) 8 b.s = within_from 8 9 b.s all small (λ k h. (omega arith, rw s (grind (arith, common_steps)))) in (
      record { counts = counts; costs = costs; small = record { v = low; s = high } },
      parted_text 44 bs (map signed_decimal all) parts ∙ ap (λ (zs : List ℤ). join_with_byte 44 (map signed_decimal zs)) (sym whole),
    )

small_mag : (z : ℤ) → IsSmall z → mag z < 2 ^ 63
small_mag (pos n) small = let most = small.1 in omega (arith, ints, most)
small_mag (negsuc n) small = let least = small.0 in omega (arith, ints, least)

small_signed : (y z : ℤ) → IsSmall y → IsSmall z → signed_decimal y ≡ signed_decimal z → y ≡ z
small_signed y z a b h = signed_decimal_injective y z (small_mag y a) (small_mag z b) h

front_of : (n : ℕ) (xs ys : List ℤ) → length xs ≡ n → take n (xs ++ ys) ≡ xs
front_of n xs ys h = rw (← h) (take-append_seam xs ys)

back_of : (n : ℕ) (xs ys : List ℤ) → length xs ≡ n → drop n (xs ++ ys) ≡ ys
back_of n xs ys h = rw (← h) (drop-append_seam xs ys)

-- two prices with one text are one price
pub prices_differ : (a b : Bill) → IsPrice a → IsPrice b → price_text a ≡ price_text b → a ≡ b
prices_differ a b price_a price_b h =
    let w = price_priced a (price_text a) price_a refl in
    let x = price_priced b (price_text a) price_b h in
    let same = map-injective signed_decimal IsSmall (all_of a) (all_of b) small_signed w.small x.small (sym w.parts ∙ x.parts) in
    let counts : a.v ≡ b.v = sym (front_of 9 a.v a.s price_a.counts) ∙ ap (take 9) same ∙ front_of 9 b.v b.s price_b.counts in
    let costs : a.s ≡ b.s = sym (back_of 9 a.v a.s price_a.counts) ∙ ap (drop 9) same ∙ back_of 9 b.v b.s price_b.counts in
    ap2 counts costs
  where
    ap2 : a.v ≡ b.v → a.s ≡ b.s → a ≡ b
    ap2 v s = let P : List ℤ → Type 0 = λ x. a ≡ record { v = x; s = b.s } in subst P v (ap (λ (x : List ℤ). record { v = a.v; s = x }) s)
