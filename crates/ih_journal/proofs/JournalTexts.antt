-- A journal by its lines.
use Rattle.std.proofs.Common.{◌≡◌, ℕ, suc, ◌+◌, ◌≤◌, ◌^◌, refl, sym, ◌∙◌, ap, subst, arith, List, [], ◌∷◌, ◌++◌, length, Some, append_assoc}
use Rattle.std.specs.Prelude.{slice_get, ◌==◌}
use Rattle.std.proofs.lemmas.List.{length-append}
use Rattle.std.proofs.lemmas.List.Splits.{slice_split_at}
use Rattle.ih_tables.specs.declared.drafts.Draft.{Draft}
use Rattle.ih_journal.specs.declared.settings.Options.{Options}
use Rattle.ih_journal.specs.declared.entries.Entry.{Entry}
use Rattle.ih_journal.specs.Texts.{heading, line_text, ended, lines_from}
use Rattle.ih_journal.specs.Grammar.{parted, IsEntryOf, IsLineOf, JournalsDiffer}
use Rattle.ih_journal.proofs.InRange.{IsLimited, limits}
use Rattle.ih_journal.proofs.HeadTexts.{heading_lacks, headings_differ, lawful_short}
use Rattle.ih_journal.proofs.LineTexts.{line_lacks, lines_differ}
use Rattle.ih_journal.proofs.Lacking.{Lacks, parted_same, same_byte, head_of, tail_of}

-- a first line and what stands behind its line feed
cut_line : (a x : List ℕ) → Lacks 10 a → parted 10 (ended a ++ x) ≡ a ∷ parted 10 x
cut_line a x lacks = ap (parted 10) (append_assoc a (10 ∷ []) x) ∙ slice_split_at (λ b. b == 10) a 10 x lacks (same_byte 10)

pub first_line : (a b x y : List ℕ) → Lacks 10 a → Lacks 10 b → ended a ++ x ≡ ended b ++ y → (a ≡ b) × (x ≡ y)
first_line a b x y la lb h =
    let parts = sym (cut_line a x la) ∙ ap (parted 10) h ∙ cut_line b y lb in
    (head_of parts, parted_same 10 x y (tail_of parts))

pub not_ended : (a x : List ℕ) → ended a ++ x ≡ [] → ⊥
not_ended a x h = let len = simp (length-append) at (ap length h) in omega (arith, len)

-- the lines of two histories of the same options, from one place on
lines_same : (I : Draft) (o : Options) (k : ℕ) (H G : List Entry) → IsLimited I → k + length H ≤ 2 ^ 32
    → ((j : ℕ) (e : Entry) → slice_get H j ≡ Some e → IsEntryOf I o e) → ((j : ℕ) (e : Entry) → slice_get G j ≡ Some e → IsEntryOf I o e)
    → lines_from o k H ≡ lines_from o k G → H ≡ G
unfolding lines_from
lines_same I o k [] [] l room left right h = refl
lines_same I o k [] (g ∷ gs) l room left right h = absurd (not_ended (line_text o k g) (lines_from o (k + 1) gs) (sym h))
lines_same I o k (e ∷ es) [] l room left right h = absurd (not_ended (line_text o k e) (lines_from o (k + 1) es) h)
lines_same I o k (e ∷ es) (g ∷ gs) l room left right h =
    let a : IsLineOf I o k e (line_text o k e) = record { place = omega arith; entry = left 0 e refl; text = refl } in
    let b : IsLineOf I o k g (line_text o k g) = record { place = omega arith; entry = right 0 g refl; text = refl } in
    let cut = first_line (line_text o k e) (line_text o k g) (lines_from o (k + 1) es) (lines_from o (k + 1) gs) (line_lacks I o k e _ l a) (line_lacks I o k g _ l b) h in
    let same : IsLineOf I o k g (line_text o k e) = record { place = b.place; entry = b.entry; text = cut.0 } in
    let entry = (lines_differ I o k k e g (line_text o k e) l a same).1 in
    let rest = lines_same I o (k + 1) es gs l (omega arith) (λ j d at. left (suc j) d at) (λ j d at. right (suc j) d at) cut.1 in
    rw (entry, rest) refl

pub journals-differ : JournalsDiffer
journals-differ I valid o p H G a b h =
    let short_o = lawful_short o a.lawful a.seed in
    let short_p = lawful_short p b.lawful b.seed in
    let cut = first_line (heading o) (heading p) (lines_from o 0 H) (lines_from p 0 G) (heading_lacks o short_o) (heading_lacks p short_p) h in
    let options = headings_differ o p short_o short_p cut.0 in
    let Right : Options → Type 0 = λ q. (j : ℕ) (e : Entry) → slice_get G j ≡ Some e → IsEntryOf I q e in
    let Lines : Options → Type 0 = λ q. lines_from o 0 H ≡ lines_from q 0 G in
    let places = a.places in
    (options, lines_same I o 0 H G (limits I valid) (omega arith) a.entries (subst Right (sym options) b.entries) (subst Lines (sym options) cut.1))
