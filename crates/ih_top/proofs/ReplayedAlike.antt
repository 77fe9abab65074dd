-- What solve writes, replay and salvage take.
use Rattle.std.proofs.Common.{◌≡◌, ◌∙◌, ℕ, ◌≤◌, refl, sym, ap, ap₂, subst, arith, inl, inr, List, [], ◌++◌, length, Option, Some, None}
use Rattle.std.proofs.lemmas.List.{append-nil, length-map}
use Rattle.std.specs.Prelude.{Bool, unwrap_or}
use Rattle.ih_top.specs.Below.Wards.{IsValid, JournalRefusal, instance, plan_in}
use Rattle.ih_top.specs.Below.Arguments.{ReplayCall, SolveCall}
use Rattle.ih_top.specs.Below.Endings.{Done, HasInstance, HasNoFault, HasPlan, MAX_FILE, MAX_JOURNAL, Names, NoneFound, Status, bytes_at, none_found_text}
use Rattle.ih_top.specs.Below.Searches.{AreLegalButDraws, Base, Entry, HasNone, IsBase, IsBest, IsFull, LegalJournalsAreShort, LegalJournalsAreTaken, LegalJournalsDiffer, TakenLinesAreOfLegalHistories, Tried, journal, lines_from}
use Rattle.ih_top.specs.Below.Searches.{started, tried, tries}
use Rattle.ih_journal.proofs.BestLemmas.{best-one, best-or-none}
use Rattle.ih_cellbook.proofs.EntryLimits.{legal-few}
use Rattle.ih_instance.proofs.DraftSound.{instance_sound}
use Rattle.ih_top.specs.JournalLines.{Begins}
use Rattle.ih_top.specs.Laws.{ComesTo, EndsIn, HaveSameBytes, IsReplayOf, JournalsFit, SolvesReplayTheSame, SolvesWithNoneReplayTheSame}
use Rattle.ih_top.specs.JournalEnds.{IsRefused, JournalEnds}
use Rattle.ih_top.specs.JournalFiles.{HasRead, JournalRead, IsHeadedBy, IsHeadless}
use Rattle.ih_top.specs.JournalUses.{IsRefusedJournal, IsReplay, ReplayEnds, IsSalvage, SalvageEnds}
use Rattle.ih_top.specs.Searches.{HasBase, IsSearch, solution_at, of_moves}
use Rattle.ih_top.specs.Texts.{done_text, salvaged_line, salvaged_text}
use Rattle.ih_top.proofs.Accepted.{journal-accepted, not-headless, not-refused, same-search}
use Rattle.ih_top.proofs.FaultlessEnds.{journal-faultless}
use Rattle.ih_top.proofs.JournalLaws.{longest-is}

-- ---- ends without a fault

ends-as : (wanted : Status) (t u : List ℕ) (X Y : Type 0) (status : Status) (said : List ℕ) → t ≡ u → (X → Y) → EndsIn wanted t X status said → EndsIn wanted u Y status said
ends-as wanted t u X Y status said e f (inl memory) = inl memory
ends-as wanted t u X Y status said e f (inr (same, told, left)) = inr (same, told ∙ e, f left)

-- ---- the journal of a search, where replay and salvage find it

search-valid : (files : Names) (s : SolveCall) (b : Base) (H : List Entry) → IsSearch of_moves (Some files) s b H → IsValid b.instance
search-valid files s b H search = instance_sound (bytes_at files s.instance) b.instance search.base.start.inputs.instance.read

pub journals-fit : LegalJournalsAreShort → JournalsFit
journals-fit short files s b H search =
    let legal : AreLegalButDraws b (tries H) = λ k e there_is. (search.made.full.legal k e there_is).entry in
    let len = short b H (record { valid = search-valid files s b H search; base = search.given; seed = search.seed }) legal in
    let few = (legal-few b (tries H) legal).most in
    let most = search.given.lawful.entries in
    let many = length-map H tried in
    omega (arith, len, few, most, many)

-- ---- the journal of a search, where a later call reads it

module _ (s : SolveCall) (r : ReplayCall) (before after there : Names) (of : IsReplayOf s r before after there) (b : Base)
    (base : HasBase (Some before) s b) (bytes : List ℕ) (short : length bytes ≤ MAX_JOURNAL) (written : after s.journal ≡ Some bytes) where
  abbrev pub read-back : JournalRead
  read-back = record { instance = b.instance; plan = base.start.plan; bytes = bytes }

  has-instance : HasInstance r.instance b.instance there
  has-instance = record {
    short = subst (λ (t : List ℕ). length t ≤ MAX_FILE) (sym of.same_instance) base.start.inputs.instance.short;
    read = ap instance of.same_instance ∙ base.start.inputs.instance.read;
  }

  has-plan : (file other : Option (List ℕ)) → HaveSameBytes there before file other → HasPlan (Some before) other b.instance base.start.plan
      → HasPlan (Some there) file b.instance base.start.plan
  has-plan None None same h = h
  has-plan None (Some other) same h = absurd same
  has-plan (Some name) None same h = absurd same
  has-plan (Some name) (Some other) same h =
      record { short = subst (λ (t : List ℕ). length t ≤ MAX_FILE) (sym same) h.short; read = ap (plan_in b.instance) same ∙ h.read }

  pub has-read-back : HasRead (Some there) r read-back
  has-read-back = record {
    inputs = record {
      instance = has-instance;
      plan = has-plan r.start.file s.start.file of.same_start base.start.inputs.plan;
    };
    journal = record { short = short; held = of.journal ∙ ap (λ (o : Option (List ℕ)). unwrap_or o []) written };
  }

-- ---- a journal from which one history is taken

module _ (r : ReplayCall) (there left : Names) (x : JournalRead) (has : HasRead (Some there) r x) (b : Base) (H : List Entry)
    (taken : JournalRead → Base → List Entry → Type 0) (refused : JournalRead → JournalRefusal → Type 0) (said : Base → List Tried → ℕ → List ℕ)
    (one : (y : JournalRead) (c : Base) (G : List Entry) → HasRead (Some there) r y → taken y c G → (c ≡ b) × (G ≡ H))
    (never : (e : JournalRefusal) → IsRefused refused r (Some there) e → ⊥) where
  both : (c : Base) (G : List Entry) → (c ≡ b) × (G ≡ H) → ◌≡◌ {A = Base × List Entry} (c, G) (b, H)
  both c G same = rw (same.0, same.1) refl

  pub comes-to : (status : Status) (text : List ℕ) → HasNoFault status → JournalEnds taken refused said r (Some there) (Some left) status text
      → ComesTo said b H (left r.out) status text
  comes-to status text calm h = elim (journal-faultless taken refused said r (Some there) (Some left) status text calm h) [
    | inl memory ↦ inl memory
    | inr (inl (is, (d, told))) ↦
        let same = both d.base d.history (one d.read d.base d.history d.given d.taken_is) in
        inr (inl (
          d.place,
          subst (λ (t : Base × List Entry). IsBest t.0 (tries t.1) d.place) same d.best,
          is,
          told ∙ ap (λ (t : Base × List Entry). said t.0 (tries t.1) d.place) same,
          d.written.whole ∙ ap (λ (t : Base × List Entry). Some (solution_at t.0 (tries t.1) d.place)) same,
        ))
    | inr (inr (inl (is, (d, told)))) ↦
        let same = both d.base d.history (one d.read d.base d.history d.given d.taken_is) in
        inr (inr (subst (λ (t : Base × List Entry). HasNone t.0 (tries t.1)) same d.none, is, told))
    | inr (inr (inr (inl refused))) ↦ absurd (never refused.refusal refused.why)
    | inr (inr (inr (inr unread))) ↦ inl (journal-accepted there r x has status text calm unread)
  ]

-- whatever is behind the lines of a full history, salvage takes that history
pub salvage-comes : LegalJournalsAreTaken → LegalJournalsDiffer → TakenLinesAreOfLegalHistories → (r : ReplayCall) (there left : Names) (x : JournalRead)
    → HasRead (Some there) r x → (b : Base) → IsValid b.instance → IsBase b → (H : List Entry) → IsFull b 1 (tries H) → (extra : List ℕ)
    → IsHeadedBy r.start x b (lines_from b.options 0 H ++ extra) → (status : Status) (text : List ℕ) → HasNoFault status
    → SalvageEnds r (Some there) (Some left) status text → ComesTo salvaged_text b H (left r.out) status text
salvage-comes taken differ texts r there left x has b valid base H full extra headed =
    comes-to r there left x has b H (IsSalvage r.start) IsHeadless salvaged_text one (not-headless there r x has b (lines_from b.options 0 H ++ extra) headed)
  where
    one : (y : JournalRead) (c : Base) (G : List Entry) → HasRead (Some there) r y → IsSalvage r.start y c G → (c ≡ b) × (G ≡ H)
    one y c G other is =
        let same = same-search there r x has b (lines_from b.options 0 H ++ extra) headed y c is.bytes other is.headed in
        let begins = subst (λ (d : Base). Begins d (lines_from b.options 0 H ++ extra) G is.rest) same.0
        (subst (λ (t : List ℕ). Begins c t G is.rest) same.1 is.begins) in
        (same.0, longest-is taken differ texts b valid base H full extra G is.rest begins)

-- ---- what a call came to that found this history

module _ (said : Base → List Tried → ℕ → List ℕ) (b : Base) (H : List Entry) (out : Option (List ℕ)) (status : Status) (text : List ℕ) where
  ends-best : (k : ℕ) → IsBest b (tries H) k → ComesTo said b H out status text
      → EndsIn Done (said b (tries H) k) (out ≡ Some (solution_at b (tries H) k)) status text
  ends-best k best (inl memory) = inl memory
  ends-best k best (inr (inl (j, found, is, told, same))) =
      let place = best-one b (tries H) j k found best in
      inr (is, told ∙ ap (said b (tries H)) place, same ∙ ap (λ n. Some (solution_at b (tries H) n)) place)
  ends-best k best (inr (inr (none, is, told))) = absurd (best-or-none b (tries H) k best none)

  ends-none : HasNone b (tries H) → ComesTo said b H out status text → EndsIn NoneFound none_found_text (Unit {0}) status text
  ends-none none (inl memory) = inl memory
  ends-none none (inr (inl (j, found, is, told, same))) = absurd (best-or-none b (tries H) j found none)
  ends-none none (inr (inr (lacking, is, told))) = inr (is, told, tt)

module _ (taken_law : LegalJournalsAreTaken) (differ : LegalJournalsDiffer) (texts : TakenLinesAreOfLegalHistories) (short : LegalJournalsAreShort)
    (s : SolveCall) (r : ReplayCall) (before after there left : Names) (of : IsReplayOf s r before after there)
    (b : Base) (H : List Entry) (search : IsSearch of_moves (Some before) s b H) (written : after s.journal ≡ Some (journal b.options H)) where
  abbrev found : JournalRead
  found = record { instance = b.instance; plan = search.base.start.plan; bytes = journal b.options H }

  valid : IsValid b.instance
  valid = search-valid before s b H search

  has : HasRead (Some there) r found
  has = has-read-back s r before after there of b search.base (journal b.options H) (journals-fit short before s b H search) written

  headed : IsHeadedBy r.start found b (lines_from b.options 0 H)
  headed = record {
    started = record {
      instance = search.base.start.started.instance;
      start = search.base.start.started.start
          ∙ ap (λ (fill : Bool). started fill b.options.hard b.instance search.base.start.plan) (sym of.fill);
      freeze = search.base.start.started.freeze ∙ sym of.freeze;
    };
    lawful = search.given.lawful;
    seed = search.seed;
    joins = refl;
  }

  -- it is taken as that search and that history
  one-replay : (y : JournalRead) (c : Base) (G : List Entry) → HasRead (Some there) r y → IsReplay r.start y c G → (c ≡ b) × (G ≡ H)
  one-replay y c G other is =
      let same = same-search there r found has b (lines_from b.options 0 H) headed y c (lines_from c.options 0 G) other is.headed in
      let full = subst (λ (x : Base). IsFull x 1 (tries G)) same.0 is.full in
      let lines : lines_from b.options 0 G ≡ lines_from b.options 0 H = ap (λ (x : Base). lines_from x.options 0 G) (sym same.0) ∙ same.1 in
      (same.0, differ b G H valid search.given full.legal search.made.full.legal lines)

  replay-comes : (status : Status) (text : List ℕ) → HasNoFault status → ReplayEnds r (Some there) (Some left) status text
      → ComesTo done_text b H (left r.out) status text
  replay-comes = comes-to r there left found has b H (IsReplay r.start) (IsRefusedJournal r.start) done_text one-replay
      (not-refused there r found has b H headed search.made.full)

  salvage-back : (status : Status) (text : List ℕ) → HasNoFault status → SalvageEnds r (Some there) (Some left) status text
      → ComesTo salvaged_text b H (left r.out) status text
  salvage-back = salvage-comes taken_law differ texts r there left found has b valid search.given H search.made.full []
      (subst (IsHeadedBy r.start found b) (sym (append-nil (lines_from b.options 0 H))) headed)

pub solves-replayed : LegalJournalsAreTaken → LegalJournalsDiffer → TakenLinesAreOfLegalHistories → LegalJournalsAreShort → SolvesReplayTheSame
solves-replayed taken_law differ texts short s r before after there left text ended said of calm done =
    let b = done.0.base in
    let H = done.0.history in
    let k = done.0.place in
    let out : (left r.out ≡ Some (solution_at b (tries H) k)) → left r.out ≡ after s.out = λ same. same ∙ sym done.0.written.out in
    record {
      replayed = λ ends. ends-as Done (done_text b (tries H) k) text (left r.out ≡ Some (solution_at b (tries H) k)) (left r.out ≡ after s.out) ended said (sym done.1) out
          (ends-best done_text b H (left r.out) ended said k done.0.best
          (replay-comes taken_law differ texts short s r before after there left of b H done.0.search done.0.written.journal ended said calm ends));
      salvaged = λ ends.
          ends-as Done (salvaged_text b (tries H) k) (salvaged_line (length H) ++ text) (left r.out ≡ Some (solution_at b (tries H) k)) (left r.out ≡ after s.out) ended said
          (ap₂ (λ n t. salvaged_line n ++ t) (length-map H tried) (sym done.1)) out
          (ends-best salvaged_text b H (left r.out) ended said k done.0.best
          (salvage-back taken_law differ texts short s r before after there left of b H done.0.search done.0.written.journal ended said calm ends));
    }

pub solves-none-replayed : LegalJournalsAreTaken → LegalJournalsDiffer → TakenLinesAreOfLegalHistories → LegalJournalsAreShort → SolvesWithNoneReplayTheSame
solves-none-replayed taken_law differ texts short s r before after there left ended said of calm found =
    let b = found.0.base in
    let H = found.0.history in
    record {
      replayed = λ ends. ends-none done_text b H (left r.out) ended said found.1
          (replay-comes taken_law differ texts short s r before after there left of b H found.0.search found.0.written.journal ended said calm ends);
      salvaged = λ ends. ends-none salvaged_text b H (left r.out) ended said found.1
          (salvage-back taken_law differ texts short s r before after there left of b H found.0.search found.0.written.journal ended said calm ends);
    }
