-- The texts of verdicts.
use Rattle.std.proofs.Common.{◌≡◌, ℕ, ◌<◌, ◌^◌, refl, sym, ◌∙◌, ap, arith, true, false, List, [], ◌∷◌, decimal, ◌≤◌}
use Rattle.std.specs.Prelude.{codes, ◌==◌}
use Rattle.std.proofs.lemmas.Fmt.{decimal_injective}
use Rattle.std.proofs.lemmas.List.Splits.{slice_split_none}
use Rattle.ih_tables.specs.declared.drafts.Draft.{Draft}
use Rattle.ih_tables.specs.declared.cells.Cell.{Cell}
use Rattle.ih_plan.specs.Cells.{IsCellOf}
use Rattle.ih_journal.specs.declared.entries.Verdict.{Verdict}
use Rattle.ih_journal.specs.declared.entries.Verdict.TheVariants.{Accepted, Declined, Stale, Frozen}
use Rattle.ih_journal.specs.Attempts.{is_stale}
use Rattle.ih_journal.specs.Texts.{cell_text, verdict_text}
use Rattle.ih_journal.specs.Grammar.{parted, IsVerdictOf}
use Rattle.ih_journal.proofs.InRange.{IsLimited, cell_short}
use Rattle.ih_journal.proofs.CellTexts.{cell_lacks_colon, cell_lacks_low, cells_differ}
use Rattle.ih_journal.proofs.Lacking.{Lacks, lacks_known, lacks_decimal, lacks_joined, parted_joined, parted_text, texts_differ, four_lack, plain_lacks, low_mark, colon}

-- the bytes are the text of a stale verdict
pub record IsStaleText (I : Draft) (v : Verdict) (bs : List ℕ) : Type 0 where
  pub cell : Cell
  pub seen : ℕ
  pub place : ℕ
  pub inside : IsCellOf I cell
  pub seen_short : seen < 2 ^ 32
  pub place_short : place < 2 ^ 32
  pub is : v ≡ Stale cell seen place
  pub parts : parted 58 bs ≡ codes "stale" ∷ cell_text cell ∷ decimal seen ∷ decimal place ∷ []

pub stale_text : (I : Draft) (v : Verdict) (bs : List ℕ) → IsLimited I → IsVerdictOf I v → is_stale v ≡ true → bs ≡ verdict_text v → IsStaleText I v bs
stale_text I Accepted bs l inside stale is = absurd (let no : false ≡ true = stale in cc)
stale_text I Declined bs l inside stale is = absurd (let no : false ≡ true = stale in cc)
stale_text I Frozen bs l inside stale is = absurd (let no : false ≡ true = stale in cc)
stale_text I (Stale c seen place) bs l inside stale is = record {
  cell = c;
  seen = seen;
  place = place;
  inside = inside.0;
  seen_short = inside.1;
  place_short = inside.2;
  is = refl;
  parts = ap (parted 58) is ∙ parted_joined 58 (codes "stale") (cell_text c ∷ decimal seen ∷ decimal place ∷ [])
      (four_lack 58 (codes "stale") (cell_text c) (decimal seen) (decimal place) (lacks_known 58 (codes "stale") refl)
      (cell_lacks_colon c (cell_short I c l inside.0))
      (lacks_decimal 58 seen colon (let s = inside.1 in omega arith)) (lacks_decimal 58 place colon (let s = inside.2 in omega arith)));
}

-- a number alone is one piece
pub last_number : (n : ℕ) (bs : List ℕ) → n < 2 ^ 32 → bs ≡ decimal n → parted 58 bs ≡ decimal n ∷ []
last_number n bs small is = ap (parted 58) is ∙ slice_split_none (λ b. b == 58) (decimal n) (lacks_decimal 58 n colon (omega arith))

-- pieces of a stale verdict that were read
pub stale_read : (bs name cell seen place : List ℕ) (c : Cell) (s p : ℕ) → name ≡ codes "stale" → cell ≡ cell_text c → seen ≡ decimal s → p < 2 ^ 32 → place ≡ decimal p
    → parted 58 bs ≡ name ∷ cell ∷ seen ∷ parted 58 place → bs ≡ verdict_text (Stale c s p)
stale_read bs name cell seen place c s p is_name is_cell is_seen small is_place parts =
    parted_text 58 bs (codes "stale" ∷ cell_text c ∷ decimal s ∷ decimal p ∷ [])
    (parts ∙ rw (is_name, is_cell, is_seen, last_number p place small is_place) refl)

-- no verdict's text has a space or a line feed
pub verdict_lacks : (m : ℕ) (I : Draft) (v : Verdict) → m ≤ 32 → IsLimited I → IsVerdictOf I v → Lacks m (verdict_text v)
verdict_lacks m I Accepted low l inside = plain_lacks m (codes "accepted") low refl
verdict_lacks m I Declined low l inside = plain_lacks m (codes "declined") low refl
verdict_lacks m I Frozen low l inside = plain_lacks m (codes "frozen") low refl
verdict_lacks m I (Stale c seen place) low l inside =
    lacks_joined m 58 (codes "stale" ∷ cell_text c ∷ decimal seen ∷ decimal place ∷ []) (λ e. omega (arith, e, low))
    (four_lack m (codes "stale") (cell_text c) (decimal seen) (decimal place) (plain_lacks m (codes "stale") low refl)
    (cell_lacks_low m c low (cell_short I c l inside.0))
    (lacks_decimal m seen (low_mark m low) (let s = inside.1 in omega arith)) (lacks_decimal m place (low_mark m low) (let s = inside.2 in omega arith)))

-- two verdicts with one text are one verdict
stale_differs : (I : Draft) (v w : Verdict) → IsLimited I → IsVerdictOf I v → IsVerdictOf I w → is_stale v ≡ true → is_stale w ≡ true → verdict_text v ≡ verdict_text w → v ≡ w
stale_differs I v w l inside_v inside_w stale_v stale_w h =
    let a = stale_text I v (verdict_text v) l inside_v stale_v refl in
    let b = stale_text I w (verdict_text v) l inside_w stale_w h in
    let parts : codes "stale" ∷ cell_text a.cell ∷ decimal a.seen ∷ decimal a.place ∷ [] ≡ codes "stale" ∷ cell_text b.cell ∷ decimal b.seen ∷ decimal b.place ∷ [] = sym a.parts ∙ b.parts in
    let cell = cells_differ a.cell b.cell (cell_short I a.cell l a.inside) (cell_short I b.cell l b.inside) cc in
    let seen = decimal_injective a.seen b.seen (let s = a.seen_short in omega arith) (let s = b.seen_short in omega arith) cc in
    let place = decimal_injective a.place b.place (let s = a.place_short in omega arith) (let s = b.place_short in omega arith) cc in
    a.is ∙ rw (cell, seen, place) (sym b.is)

-- a stale verdict's text has a colon, and no other's has
pub not_plain : (I : Draft) (v : Verdict) (plain : List ℕ) → IsLimited I → IsVerdictOf I v → is_stale v ≡ true → parted 58 plain ≡ plain ∷ [] → plain ≡ verdict_text v → ⊥
not_plain I v plain l inside stale whole is =
    let text = stale_text I v plain l inside stale is in
    let no = sym whole ∙ text.parts in cc

pub verdicts_differ : (I : Draft) (v w : Verdict) → IsLimited I → IsVerdictOf I v → IsVerdictOf I w → verdict_text v ≡ verdict_text w → v ≡ w
verdicts_differ I Accepted Accepted l a b h = refl
verdicts_differ I Accepted Declined l a b h = absurd (texts_differ (codes "accepted") (codes "declined") refl h)
verdicts_differ I Accepted Frozen l a b h = absurd (texts_differ (codes "accepted") (codes "frozen") refl h)
verdicts_differ I Accepted (Stale c s p) l a b h = absurd (not_plain I (Stale c s p) (codes "accepted") l b refl refl h)
verdicts_differ I Declined Accepted l a b h = absurd (texts_differ (codes "declined") (codes "accepted") refl h)
verdicts_differ I Declined Declined l a b h = refl
verdicts_differ I Declined Frozen l a b h = absurd (texts_differ (codes "declined") (codes "frozen") refl h)
verdicts_differ I Declined (Stale c s p) l a b h = absurd (not_plain I (Stale c s p) (codes "declined") l b refl refl h)
verdicts_differ I Frozen Accepted l a b h = absurd (texts_differ (codes "frozen") (codes "accepted") refl h)
verdicts_differ I Frozen Declined l a b h = absurd (texts_differ (codes "frozen") (codes "declined") refl h)
verdicts_differ I Frozen Frozen l a b h = refl
verdicts_differ I Frozen (Stale c s p) l a b h = absurd (not_plain I (Stale c s p) (codes "frozen") l b refl refl h)
verdicts_differ I (Stale c s p) Accepted l a b h = absurd (not_plain I (Stale c s p) (codes "accepted") l a refl refl (sym h))
verdicts_differ I (Stale c s p) Declined l a b h = absurd (not_plain I (Stale c s p) (codes "declined") l a refl refl (sym h))
verdicts_differ I (Stale c s p) Frozen l a b h = absurd (not_plain I (Stale c s p) (codes "frozen") l a refl refl (sym h))
verdicts_differ I (Stale c s p) (Stale d t q) l a b h = stale_differs I (Stale c s p) (Stale d t q) l a b refl refl h
