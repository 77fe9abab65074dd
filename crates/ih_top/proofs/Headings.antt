-- Journals that replay and salvage don't take whole: that of chains, whose heading both refuse, and that of rounds, in
-- which another heading stands behind the lines of the first history: replay refuses it there, and salvage stops.
use Rattle.std.proofs.Common.{◌≡◌, ◌∙◌, ℕ, zero, suc, ◌+◌, ◌*◌, ◌≤◌, sym, ap, subst, arith, inl, inr, List, [], length, Option, Some, ◌<◌, refl, ap₂, true, false, ◌∷◌, ◌++◌, append_assoc}
use Rattle.std.specs.Prelude.{slice_index, unwrap_or, ◌^◌, Bool}
use Rattle.std.proofs.lemmas.List.{length-map, append-nil, append_cancel_left}
use Rattle.std.proofs.Math.Nat.{mul-le-mul_right}
use Rattle.ih_top.specs.Below.Wards.{Extra, IsPlanOf, IsValid, JournalRefusal, Reason}
use Rattle.ih_top.specs.Below.Arguments.{NamedCallsAreWithinLimits, PlainCall, ReplayCall, chain, rounds}
use Rattle.ih_top.specs.Below.Endings.{HasNoFault, JournalRefused, MAX_JOURNAL, Names, Status, bytes_at}
use Rattle.ih_top.specs.Below.Searches.{AreLegalButDraws, Base, ChainJournalsAreShort, Entry, IsBase, IsFull, IsRefusedFor, LegalJournalsAreTaken, LegalJournalsDiffer, Options, Passes, Round, SixteenJournalsAreShort}
use Rattle.ih_top.specs.Below.Searches.{TakenLinesAreOfLegalHistories, base_in, chain_journal, chain_tried, chain_tries, ended, in_order, lines_from, most_entries, of_entry, of_place, options_in, started, tries}
use Rattle.ih_journal.specs.Texts.{heading}
use Rattle.ih_cellbook.proofs.EntryLimits.{legal-few}
use Rattle.ih_chain.specs.Texts.{chain_heading}
use Rattle.ih_instance.proofs.DraftSound.{instance_sound}
use Rattle.ih_top.specs.Laws.{ChainJournalsAreHeadless, ChainJournalsFit, ChainsAreRefused, ComesTo, EndsIn, IsReplayOf, RoundJournalsFit, RoundsAreRefused, RoundsAreSalvaged, second_heading}
use Rattle.ih_top.specs.JournalEnds.{IsRefused}
use Rattle.ih_top.specs.JournalFiles.{HasRead, JournalRead, HasNoHeading, IsHeadedBy, IsHeadless, no_heading}
use Rattle.ih_top.specs.JournalUses.{IsRefusedJournal, IsReplay, IsSalvage, ReplayEnds, SalvageEnds}
use Rattle.ih_top.specs.Texts.{done_text, salvaged_text, journal_refused_text}
use Rattle.ih_top.proofs.Accepted.{refused-ends, same-bytes, not-headless, same-search}
use Rattle.std.specs.List.{AllByRecursion}
use Rattle.ih_journal.proofs.HeadTexts.{heading_lacks, lawful_short}
use Rattle.ih_rounds.specs.Rounds.{journals}
use Rattle.ih_rounds.proofs.Runs.{lawful-in}
use Rattle.ih_top.specs.JournalLines.{HasLine, IsRefusedAt, IsRestRefused}
use Rattle.ih_top.specs.Rounds.{of_rounds}
use Rattle.ih_top.specs.Searches.{IsSearch}
use Rattle.ih_top.proofs.FirstLines.{ended-some, no-line-in}
use Rattle.ih_top.proofs.JournalLaws.{longest-is, no-longer}
use Rattle.ih_top.proofs.ReplayedAlike.{has-read-back, read-back, salvage-comes}

-- the third letters of the two headings differ
pub chains-headless : ChainJournalsAreHeadless
unfolding heading chain_heading
chains-headless o each H p more lawful seed same =
    let third : 99 ≡ 106 = ap (λ (bytes : List ℕ). slice_index bytes 2) same in
    absurd (omega (arith, third))

-- ---- how long it is

spread : (each n : ℕ) → (226 + 29 * each) * n ≡ 226 * n + 29 * (n * each)
spread each zero = omega arith
spread each (suc n) = let rest = spread each n in omega (arith, rest)

within : (n most each all : ℕ) → n ≤ most → most ≤ 1000000 → most * each ≤ 1000000 → all ≤ 128 + (226 + 29 * each) * n → all ≤ MAX_JOURNAL
within n most each all few some words len =
    let step : n * each ≤ most * each = mul-le-mul_right each few in
    let parts = spread each n in
    omega (arith, few, some, words, len, step, parts)

pub chains-fit : NamedCallsAreWithinLimits → ChainJournalsAreShort → ChainJournalsFit
chains-fit limited short files c b H named search =
    let limits = limited (chain c) named in
    let legal : AreLegalButDraws b (chain_tries H) = λ k e there. (search.made.full.legal k e there).entry in
    let valid = instance_sound (bytes_at files c.search.instance) b.instance search.base.start.inputs.instance.read in
    let len = short b c.number H (record { valid = valid; base = search.given; seed = search.seed }) limits.most search.made.full.legal in
    let few = (legal-few b (chain_tries H) legal).most in
    let many = length-map H chain_tried in
    let all = search.given.lawful.entries in
    let words : most_entries b.options * c.number ≤ 1000000 = subst (λ (o : Options). most_entries o * c.number ≤ 1000000) (sym search.base.options) limits.few in
    within (length H) (most_entries b.options) c.number (length (chain_journal b.options c.number H)) (omega (arith, few, many)) all words len

-- ---- how it is refused

module _ (r : ReplayCall) (there : Names) (x : JournalRead) (has : HasRead (Some there) r x) (headless : HasNoHeading x.bytes) where
  -- nothing is headed in it
  never-headed : (y : JournalRead) (b : Base) (bytes : List ℕ) → HasRead (Some there) r y → IsHeadedBy r.start y b bytes → ⊥
  never-headed y b bytes given headed =
      headless b.options bytes headed.lawful headed.seed (sym (same-bytes there r x has y given) ∙ headed.joins)

  replay-first : (e : JournalRefusal) → IsRefused (IsRefusedJournal r.start) r (Some there) e → e ≡ no_heading
  replay-first e h = elim h.why [
    | inl headless ↦ headless.refusal
    | inr line ↦ absurd (never-headed h.read line.base line.bytes h.given line.headed)
  ]

pub chains-refused : NamedCallsAreWithinLimits → ChainJournalsAreShort → ChainsAreRefused
chains-refused limited short c r before after there left b H ended said named has-left given same calm =
    let bytes = chain_journal b.options c.number H in
    let fits = chains-fit limited short before c b H named has-left.search in
    let x : JournalRead = record { instance = given.instance; plan = given.plan; bytes = bytes } in
    let has : HasRead (Some there) r x = record {
      inputs = given.inputs;
      journal = record { short = fits; held = same ∙ ap (λ (o : Option (List ℕ)). unwrap_or o []) has-left.written };
    } in
    let headless = chains-headless b.options c.number H in
    record {
      replayed = refused-ends there r x has left (IsReplay r.start) (IsRefusedJournal r.start) done_text
          (λ y d G has-read taken. never-headed r there x has headless y d _ has-read taken.headed) no_heading (replay-first r there x has headless) ended said calm;
      salvaged = refused-ends there r x has left (IsSalvage r.start) IsHeadless salvaged_text
          (λ y d G has-read taken. never-headed r there x has headless y d _ has-read taken.headed) no_heading (λ e h. h.why.refusal) ended said calm;
    }

-- ---- a full history's lines, and one line more

module _ (taken : LegalJournalsAreTaken) (differ : LegalJournalsDiffer) (texts : TakenLinesAreOfLegalHistories) (b : Base) (valid : IsValid b.instance) (base : IsBase b)
    (G : List Entry) (full : IsFull b 1 (tries G)) (extra line more : List ℕ) (has : HasLine extra line more) where
  some-extra : extra ≡ [] → ⊥
  some-extra none = ended-some line more (sym none ∙ has.joins)

  not-whole : (K : List Entry) → IsFull b 1 (tries K) → lines_from b.options 0 G ++ extra ≡ lines_from b.options 0 K → ⊥
  not-whole K other is =
      let same : K ≡ G = no-longer taken differ texts b valid base G full K extra other.legal is in
      some-extra (append_cancel_left (lines_from b.options 0 G) extra []
      (is ∙ (ap (lines_from b.options 0) same ∙ sym (append-nil (lines_from b.options 0 G)))))

  -- whatever the line is, it is one too many
  extra-first : (other : List ℕ) (reason : Reason) → IsRefusedFor b G other reason → reason ≡ Extra
  extra-first other reason why = by-earlier why.earlier why.listed why.passed
    where
      by-earlier : (es : List Reason) → in_order ≡ es ++ reason ∷ why.later → AllByRecursion (Passes b (tries G) other) es → reason ≡ Extra
      by-earlier [] is passed =
          let same : Extra ∷ (of_place ++ of_entry) ≡ reason ∷ why.later = is in
          let first : reason ≡ Extra = cc in first
      by-earlier (x ∷ xs) is passed =
          let same : Extra ∷ (of_place ++ of_entry) ≡ x ∷ (xs ++ reason ∷ why.later) = is in
          let first : x ≡ Extra = cc in
          let going : Passes b (tries G) other Extra = subst (Passes b (tries G) other) first passed.0 in
          absurd (let clash : true ≡ false = sym (full.done going.0 going.1.0) ∙ going.1.1 in cc)

  extra-refused : (H : List Entry) (e : JournalRefusal) → IsRefusedAt b (lines_from b.options 0 G ++ extra) H e
      → (e.line ≡ length G + 2) × (e.reason ≡ Extra)
  extra-refused H e refused =
      let same : H ≡ G = longest-is taken differ texts b valid base G full extra H refused.rest refused.begins in
      let is : refused.rest ≡ extra = append_cancel_left (lines_from b.options 0 G) refused.rest extra
      (ap (λ (K : List Entry). lines_from b.options 0 K ++ refused.rest) (sym same) ∙ sym refused.begins.joins) in
      let why : IsRestRefused b G refused.rest e.reason = subst (λ (K : List Entry). IsRestRefused b K refused.rest e.reason) same refused.reason in (
        refused.line ∙ ap (λ (K : List Entry). length K + 2) same,
        elim why [
          | inl found ↦ extra-first found.0 e.reason found.3
          | inr (inl unended) ↦ absurd (no-line-in refused.rest line more unended.1 (record { joins = is ∙ has.joins; first = has.first }))
          | inr (inr early) ↦ absurd (some-extra (sym is ∙ early.0))
        ],
      )

-- ---- the journal of rounds

module _ (taken : LegalJournalsAreTaken) (differ : LegalJournalsDiffer) (texts : TakenLinesAreOfLegalHistories) (c : PlainCall) (r : ReplayCall)
    (before after there : Names) (of : IsReplayOf c.search r before after there) (b : Base) (first second : Round) (later : List Round)
    (searches : IsSearch (of_rounds c.number) (Some before) c.search b (first ∷ second ∷ later))
    (fits : length (journals b.options 0 (first ∷ second ∷ later)) ≤ MAX_JOURNAL)
    (written : after c.search.journal ≡ Some (journals b.options 0 (first ∷ second ∷ later))) where
  abbrev bytes : List ℕ
  bytes = journals b.options 0 (first ∷ second ∷ later)

  abbrev found : JournalRead
  found = read-back c.search r before after there of b searches.base bytes fits written

  has : HasRead (Some there) r found
  has = has-read-back c.search r before after there of b searches.base bytes fits written

  -- the search of the first round
  abbrev one : Base
  one = base_in b 0 first

  -- what is behind its lines
  abbrev extra : List ℕ
  extra = journals b.options 1 (second ∷ later)

  starts : first.start ≡ b.start
  starts = (searches.made.legal 0 first refl).start

  one-base : IsBase one
  one-base = record {
    start = subst (λ P. IsPlanOf b.instance P) (sym starts) searches.given.start;
    lawful = lawful-in b.options 0 searches.given.lawful;
  }

  seed-in : (q : ℕ) → (options_in b.options q).seed < 2 ^ 64
  seed-in q = omega arith

  valid : IsValid b.instance
  valid = instance_sound (bytes_at before c.search.instance) b.instance searches.base.start.inputs.instance.read

  headed : IsHeadedBy r.start found one (lines_from one.options 0 first.history ++ extra)
  unfolding journals
  headed = record {
    started = record {
      instance = searches.base.start.started.instance;
      start = starts ∙ (searches.base.start.started.start
          ∙ ap (λ (fill : Bool). started fill b.options.hard b.instance searches.base.start.plan) (sym of.fill));
      freeze = searches.base.start.started.freeze ∙ sym of.freeze;
    };
    lawful = one-base.lawful;
    seed = seed-in 0;
    joins = append_assoc (ended (heading one.options)) (lines_from one.options 0 first.history) extra;
  }

  next : HasLine extra (heading (options_in b.options 1)) (lines_from (options_in b.options 1) 0 second.history ++ journals b.options 2 later)
  unfolding journals
  next = record {
    joins = append_assoc (ended (heading (options_in b.options 1))) (lines_from (options_in b.options 1) 0 second.history) (journals b.options 2 later);
    first = heading_lacks (options_in b.options 1)
        (lawful_short (options_in b.options 1) (lawful-in b.options 1 searches.given.lawful) (seed-in 1));
  }

  never-taken : (y : JournalRead) (d : Base) (K : List Entry) → HasRead (Some there) r y → IsReplay r.start y d K → ⊥
  never-taken y d K other is =
      let same = same-search there r found has one _ headed y d (lines_from d.options 0 K) other is.headed in
      not-whole taken differ texts one valid one-base first.history (searches.made.legal 0 first refl).full extra _ _ next K
      (subst (λ (x : Base). IsFull x 1 (tries K)) same.0 is.full)
      (sym same.1 ∙ ap (λ (x : Base). lines_from x.options 0 K) same.0)

  refusal-is : (e : JournalRefusal) → IsRefused (IsRefusedJournal r.start) r (Some there) e → e ≡ second_heading first
  refusal-is e h = elim h.why [
    | inl headless ↦ absurd (not-headless there r found has one _ headed e (record { read = h.read; given = h.given; why = headless }))
    | inr line ↦
        let same = same-search there r found has one _ headed h.read line.base line.bytes h.given line.headed in
        let refused = subst (λ (x : Base). IsRefusedAt x (lines_from one.options 0 first.history ++ extra) line.history e) same.0
        (subst (λ (t : List ℕ). IsRefusedAt line.base t line.history e) same.1 line.refused) in
        let is = extra-refused taken differ texts one valid one-base first.history (searches.made.legal 0 first refl).full extra _ _ next line.history e refused in
        ap₂ (λ (n : ℕ) (why : Reason). let x : JournalRefusal = record { line = n; reason = why } in x) is.0 is.1
  ]

  rounds-ended : (left : Names) (ended : Status) (said : List ℕ) → HasNoFault ended → ReplayEnds r (Some there) (Some left) ended said
      → EndsIn (JournalRefused (second_heading first)) (journal_refused_text (second_heading first)) (Unit {0}) ended said
  rounds-ended left = refused-ends there r found has left (IsReplay r.start) (IsRefusedJournal r.start) done_text never-taken (second_heading first) refusal-is

  -- salvage finds the first history
  first-salvaged : (left : Names) (ended : Status) (said : List ℕ) → HasNoFault ended → SalvageEnds r (Some there) (Some left) ended said
      → ComesTo salvaged_text one first.history (left r.out) ended said
  first-salvaged left =
      salvage-comes taken differ texts r there left found has one valid one-base first.history (searches.made.legal 0 first refl).full extra headed

-- ---- rounds that words name

pub rounds-within : NamedCallsAreWithinLimits → SixteenJournalsAreShort → RoundJournalsFit
rounds-within within short files c b rs named searches =
    let limits = within (rounds c) named in
    let some : c.number ≤ 16 = limits.most in
    let count = searches.made.count_is in
    let valid = instance_sound (bytes_at files c.search.instance) b.instance searches.base.start.inputs.instance.read in
    let words : most_entries b.options * c.number ≤ 1000000 = subst (λ (o : Options). most_entries o * c.number ≤ 1000000) (sym searches.base.options) limits.few in
    let few : most_entries b.options * length rs ≤ 1000000 = subst (λ n. most_entries b.options * n ≤ 1000000) (sym count) words in
    let len = short b rs (record { valid = valid; base = searches.given; seed = searches.seed }) searches.made.legal (omega (arith, count, some)) few in
    omega (arith, len)

pub rounds-refused : LegalJournalsAreTaken → LegalJournalsDiffer → TakenLinesAreOfLegalHistories → RoundJournalsFit → RoundsAreRefused
rounds-refused taken differ texts fit c r before after there left b first second later ended said named have of calm ends =
    let fits = fit before c b (first ∷ second ∷ later) named have.search in
    rounds-ended taken differ texts c r before after there of b first second later have.search fits have.written left ended said calm ends

pub rounds-salvaged : LegalJournalsAreTaken → LegalJournalsDiffer → TakenLinesAreOfLegalHistories → RoundJournalsFit → RoundsAreSalvaged
rounds-salvaged taken differ texts fit c r before after there left b first second later ended said named have of calm ends =
    let fits = fit before c b (first ∷ second ∷ later) named have.search in
    first-salvaged taken differ texts c r before after there of b first second later have.search fits have.written left ended said calm ends
