-- How long the journals of rounds are.
use Rattle.std.proofs.Common.{◌≡◌, ℕ, suc, ◌+◌, ◌*◌, ◌≤◌, subst, arith, List, [], ◌∷◌, length, refl, Some}
use Rattle.std.specs.Prelude.{slice_get}
use Rattle.std.proofs.lemmas.List.{length-append, length-map}
use Rattle.ih_journal.specs.declared.settings.Options.{Options}
use Rattle.ih_journal.specs.Base.{Base}
use Rattle.ih_journal.specs.Settings.{most_entries}
use Rattle.ih_journal.specs.Texts.{journal}
use Rattle.ih_journal.specs.Tried.{tried, tries}
use Rattle.ih_cellbook.specs.Laws.{IsSearchBase, LegalJournalsAreShort}
use Rattle.ih_cellbook.proofs.EntryLimits.{legal-few}
use Rattle.ih_rounds.specs.Laws.{RoundJournalsAreShort, SixteenJournalsAreShort}
use Rattle.ih_rounds.specs.Rounds.{AreRounds, Round, base_in, journals, options_in}
use Rattle.ih_rounds.proofs.JournalsApart.{search-in}
use Rattle.ih_rounds.proofs.Leading.{but-draws}

-- where no journal of rounds that follow q others is longer than `most`
each-short : (o : Options) (most q : ℕ) (rs : List Round)
    → ((k : ℕ) (r : Round) → slice_get rs k ≡ Some r → length (journal (options_in o (q + k)) r.history) ≤ most)
    → length (journals o q rs) ≤ most * length rs
unfolding journals
each-short o most q [] each = omega arith
each-short o most q (r ∷ rs) each =
    let first = subst (λ n. length (journal (options_in o n) r.history) ≤ most) (let same : q + 0 ≡ q = omega arith in same) (each 0 r refl) in
    let rest = each-short o most (q + 1) rs
    (λ k s there. subst (λ n. length (journal (options_in o n) s.history) ≤ most) (let same : q + suc k ≡ q + 1 + k = omega arith in same) (each (suc k) s there)) in
    let both = length-append (journal (options_in o q) r.history) (journals o (q + 1) rs) in
    omega (arith, first, rest, both)

one-short : LegalJournalsAreShort → (b : Base) (rs : List Round) → IsSearchBase b → AreRounds b rs → (q : ℕ) (r : Round) → slice_get rs q ≡ Some r
    → length (journal (options_in b.options q) r.history) ≤ 128 + 256 * most_entries b.options
one-short law b rs search legal q r here =
    let own = but-draws (base_in b q r) (tries r.history) (legal q r here).full.legal in
    let len = law (base_in b q r) r.history (search-in b rs search legal q r here) own in
    let few = (legal-few (base_in b q r) (tries r.history) own).most in
    let many = length-map r.history tried in
    omega (arith, len, few, many)

pub rounds-short : LegalJournalsAreShort → RoundJournalsAreShort
rounds-short law b rs search legal =
    let most : ℕ = 128 + 256 * most_entries b.options in
    each-short b.options most 0 rs (λ q r there.
    subst (λ n. length (journal (options_in b.options n) r.history) ≤ most) (let same : q ≡ 0 + q = omega arith in same)
    (one-short law b rs search legal q r there))

within : (all most n : ℕ) → all ≤ (128 + 256 * most) * n → n ≤ 16 → most * n ≤ 1000000 → all ≤ 256002048
within all most n len some few =
    let parts : (128 + 256 * most) * n ≡ 128 * n + 256 * (most * n) = omega arith in
    omega (arith, len, parts, some, few)

pub sixteen-short : LegalJournalsAreShort → SixteenJournalsAreShort
sixteen-short law b rs search legal some few =
    within (length (journals b.options 0 rs)) (most_entries b.options) (length rs) (rounds-short law b rs search legal) some few
