-- Where the journal of one round ends and that of the next begins: a line begins with a digit, a heading doesn't.
use Rattle.std.proofs.Common.{◌≡◌, ℕ, suc, ◌+◌, ◌≤◌, ◌^◌, refl, sym, ◌∙◌, subst, arith, inl, inr, codes, List, [], ◌∷◌, ◌++◌, length, append_assoc, Some}
use Rattle.std.specs.Prelude.{slice_get, ◌⊎◌}
use Rattle.ih_tables.specs.declared.drafts.Draft.{Draft}
use Rattle.ih_journal.specs.declared.entries.Entry.{Entry}
use Rattle.ih_journal.specs.declared.settings.Options.{Options}
use Rattle.ih_journal.specs.Grammar.{IsEntryOf, IsHistoryOf, IsLineOf}
use Rattle.ih_journal.specs.Texts.{ended, fields, heading, line_text, lines_from}
use Rattle.ih_journal.proofs.Digits.{no_digit, text_number}
use Rattle.ih_journal.proofs.HeadTexts.{heading_lacks, heading_parted, lawful_short}
use Rattle.ih_journal.proofs.InRange.{IsLimited, limits}
use Rattle.ih_journal.proofs.JournalTexts.{first_line, not_ended}
use Rattle.ih_journal.proofs.Lacking.{head_of}
use Rattle.ih_journal.proofs.LineTexts.{line_lacks, line_parted, lines_differ}
use Rattle.ih_rounds.specs.Laws.{JournalsCanBeParted}
use Rattle.ih_rounds.specs.Rounds.{Round, histories, journals, options_in}

-- a heading is no line of an entry
not-line : (I : Draft) (o p : Options) (k : ℕ) (e : Entry) (H : List Entry) → IsLimited I → IsHistoryOf I p H → IsLineOf I o k e (line_text o k e)
    → heading p ≡ line_text o k e → ⊥
unfolding fields
not-line I o p k e H l head line same =
    let place = line.place in
    let parts = sym (heading_parted p (line_text o k e) (lawful_short p head.lawful head.seed) (sym same)) ∙ line_parted I o k e (line_text o k e) l line in
    let digits = text_number (codes "ihjournal") k (omega arith) (head_of parts) in
    no_digit (codes "ihjournal") 0 (omega arith) (λ r. absurd (omega arith)) digits.0

-- nothing, or a journal of a history in range and what is behind it
abbrev IsBehind : Draft → List ℕ → Type 0
IsBehind I x = (x ≡ []) ⊎ ((p : Options) × (H : List Entry) × (rest : List ℕ) × IsHistoryOf I p H × (x ≡ ended (heading p) ++ rest))

not-behind : (I : Draft) (o : Options) (k : ℕ) (e : Entry) (x y : List ℕ) → IsLimited I → IsLineOf I o k e (line_text o k e) → IsBehind I x
    → x ≡ ended (line_text o k e) ++ y → ⊥
not-behind I o k e x y l line (inl none) h = not_ended (line_text o k e) y (sym h ∙ none)
not-behind I o k e x y l line (inr more) h =
    let p = more.0 in
    let head = more.3 in
    let cut = first_line (heading p) (line_text o k e) more.2 y (heading_lacks p (lawful_short p head.lawful head.seed)) (line_lacks I o k e _ l line)
    (sym more.4 ∙ h) in
    not-line I o p k e more.1 l head line cut.0

-- the lines of two histories, with what is behind them
lines-parted : (I : Draft) (o : Options) (k : ℕ) (H G : List Entry) (x y : List ℕ) → IsLimited I → k + length H ≤ 2 ^ 32 → k + length G ≤ 2 ^ 32
    → ((j : ℕ) (e : Entry) → slice_get H j ≡ Some e → IsEntryOf I o e) → ((j : ℕ) (e : Entry) → slice_get G j ≡ Some e → IsEntryOf I o e)
    → IsBehind I x → IsBehind I y → lines_from o k H ++ x ≡ lines_from o k G ++ y → (H ≡ G) × (x ≡ y)
unfolding lines_from
lines-parted I o k [] [] x y l room space left right bx by h = (refl, h)
lines-parted I o k [] (g ∷ gs) x y l room space left right bx by h =
    absurd (not-behind I o k g x (lines_from o (k + 1) gs ++ y) l (record { place = omega arith; entry = right 0 g refl; text = refl }) bx
    (h ∙ append_assoc (ended (line_text o k g)) (lines_from o (k + 1) gs) y))
lines-parted I o k (e ∷ es) [] x y l room space left right bx by h =
    absurd (not-behind I o k e y (lines_from o (k + 1) es ++ x) l (record { place = omega arith; entry = left 0 e refl; text = refl }) by
    (sym h ∙ append_assoc (ended (line_text o k e)) (lines_from o (k + 1) es) x))
lines-parted I o k (e ∷ es) (g ∷ gs) x y l room space left right bx by h =
    let a : IsLineOf I o k e (line_text o k e) = record { place = omega arith; entry = left 0 e refl; text = refl } in
    let b : IsLineOf I o k g (line_text o k g) = record { place = omega arith; entry = right 0 g refl; text = refl } in
    let both = sym (append_assoc (ended (line_text o k e)) (lines_from o (k + 1) es) x) ∙ h ∙ append_assoc (ended (line_text o k g)) (lines_from o (k + 1) gs) y in
    let cut = first_line (line_text o k e) (line_text o k g) (lines_from o (k + 1) es ++ x) (lines_from o (k + 1) gs ++ y)
    (line_lacks I o k e _ l a) (line_lacks I o k g _ l b) both in
    let same : IsLineOf I o k g (line_text o k e) = record { place = b.place; entry = b.entry; text = cut.0 } in
    let entry = (lines_differ I o k k e g (line_text o k e) l a same).1 in
    let rest = lines-parted I o (k + 1) es gs x y l (omega arith) (omega arith) (λ j d at. left (suc j) d at) (λ j d at. right (suc j) d at) bx by cut.1 in
    (rw (entry, rest.0) refl, rest.1)

-- each history of rounds that follow q others is in range
abbrev AreInRangeFrom : Draft → Options → ℕ → List Round → Type 0
AreInRangeFrom I o q rs = (j : ℕ) (r : Round) → slice_get rs j ≡ Some r → IsHistoryOf I (options_in o (q + j)) r.history

range-here : (I : Draft) (o : Options) (q : ℕ) (r : Round) (rs : List Round) → AreInRangeFrom I o q (r ∷ rs) → IsHistoryOf I (options_in o q) r.history
range-here I o q r rs h = let same : q + 0 ≡ q = omega arith in subst (λ k. IsHistoryOf I (options_in o k) r.history) same (h 0 r refl)

range-next : (I : Draft) (o : Options) (q : ℕ) (r : Round) (rs : List Round) → AreInRangeFrom I o q (r ∷ rs) → AreInRangeFrom I o (q + 1) rs
range-next I o q r rs h j s at =
    let same : q + suc j ≡ q + 1 + j = omega arith in
    subst (λ k. IsHistoryOf I (options_in o k) s.history) same (h (suc j) s at)

behind : (I : Draft) (o : Options) (q : ℕ) (rs : List Round) → AreInRangeFrom I o q rs → IsBehind I (journals o q rs)
unfolding journals
behind I o q [] h = inl refl
behind I o q (r ∷ rs) h = inr (
  options_in o q,
  r.history,
  lines_from (options_in o q) 0 r.history ++ journals o (q + 1) rs,
  range-here I o q r rs h,
  append_assoc (ended (heading (options_in o q))) (lines_from (options_in o q) 0 r.history) (journals o (q + 1) rs),
)

parted-from : (I : Draft) (o : Options) (q : ℕ) (rs ss : List Round) → IsLimited I → AreInRangeFrom I o q rs → AreInRangeFrom I o q ss
    → journals o q rs ≡ journals o q ss → histories rs ≡ histories ss
unfolding journals
parted-from I o q [] [] l left right h = refl
parted-from I o q [] (s ∷ ss) l left right h =
    absurd (not_ended (heading (options_in o q)) (lines_from (options_in o q) 0 s.history ++ journals o (q + 1) ss)
    (sym (append_assoc (ended (heading (options_in o q))) (lines_from (options_in o q) 0 s.history) (journals o (q + 1) ss)) ∙ sym h))
parted-from I o q (r ∷ rs) [] l left right h =
    absurd (not_ended (heading (options_in o q)) (lines_from (options_in o q) 0 r.history ++ journals o (q + 1) rs)
    (sym (append_assoc (ended (heading (options_in o q))) (lines_from (options_in o q) 0 r.history) (journals o (q + 1) rs)) ∙ h))
parted-from I o q (r ∷ rs) (s ∷ ss) l left right h =
    let p : Options = options_in o q in
    let here = range-here I o q r rs left in
    let there = range-here I o q s ss right in
    let more = range-next I o q r rs left in
    let next = range-next I o q s ss right in
    let head = ended (heading p) in
    let short = lawful_short p here.lawful here.seed in
    let whole = sym (append_assoc head (lines_from p 0 r.history) (journals o (q + 1) rs)) ∙ h ∙ append_assoc head (lines_from p 0 s.history) (journals o (q + 1) ss) in
    let cut = first_line (heading p) (heading p) (lines_from p 0 r.history ++ journals o (q + 1) rs) (lines_from p 0 s.history ++ journals o (q + 1) ss)
    (heading_lacks p short) (heading_lacks p short) whole in
    let places = here.places in
    let others = there.places in
    let lines = lines-parted I p 0 r.history s.history (journals o (q + 1) rs) (journals o (q + 1) ss) l (omega arith) (omega arith) here.entries there.entries
    (behind I o (q + 1) rs more) (behind I o (q + 1) ss next) cut.1 in
    let rest = parted-from I o (q + 1) rs ss l more next lines.1 in
    rw (lines.0, rest) refl

from-first : (I : Draft) (o : Options) (ts : List Round)
    → ((q : ℕ) (r : Round) → slice_get ts q ≡ Some r → IsHistoryOf I (options_in o q) r.history) → AreInRangeFrom I o 0 ts
from-first I o ts range j r at =
    let same : j ≡ 0 + j = omega arith in
    subst (λ k. IsHistoryOf I (options_in o k) r.history) same (range j r at)

pub rounds-parted : JournalsCanBeParted
rounds-parted b rs ss valid left right h =
    parted-from b.instance b.options 0 rs ss (limits b.instance valid) (from-first b.instance b.options rs left)
    (from-first b.instance b.options ss right) h
