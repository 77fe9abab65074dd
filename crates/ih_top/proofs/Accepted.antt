-- Files that are accepted, and journals: with no fault and memory enough a call comes past them, and finds one thing in
-- them.
use Rattle.std.proofs.Common.{◌≡◌, ℕ, refl, sym, ◌∙◌, ap, ap₂, subst, inl, inr, List, Option, Some, None}
use Rattle.std.specs.Prelude.{Ok}
use Rattle.ih_top.specs.Below.Wards.{Draft, JournalRefusal, Timetable}
use Rattle.ih_top.specs.Below.Arguments.{ReplayCall}
use Rattle.ih_top.specs.Below.Endings.{EndsUnread, HasInputs, HasNoFault, HasPlan, JournalRefused, Names, OutOfMemory, Status, two_files}
use Rattle.ih_top.specs.Below.Searches.{Base, Entry, IsFull, Options, Tried, heading, lines_from, started, tries}
use Rattle.ih_journal.proofs.HeadTexts.{heading_lacks, headings_differ, lawful_short}
use Rattle.ih_frame.proofs.Complete.{accepted}
use Rattle.ih_top.specs.Commands.{replay_inputs}
use Rattle.ih_top.specs.JournalEnds.{IsRefused, JournalEnds}
use Rattle.ih_top.specs.JournalFiles.{HasRead, JournalRead, IsHeadedBy, IsHeadless}
use Rattle.ih_top.specs.Laws.{EndsIn}
use Rattle.ih_top.specs.JournalUses.{IsRefusedJournal}
use Rattle.ih_top.specs.Texts.{journal_refused_text}
use Rattle.ih_top.proofs.FaultlessEnds.{journal-faultless}
use Rattle.ih_top.proofs.FirstLines.{first-apart}

-- ---- files that are accepted

-- what the files of an instance and of a timetable give a call that names no other
pub accepted-two : (files : Names) (name : List ℕ) (solution : Option (List ℕ)) (I : Draft) (P : Timetable) → HasInputs (Some files) (two_files name solution) I P
    → (status : Status) (text : List ℕ) → HasNoFault status → EndsUnread (Some files) (two_files name solution) status text → status ≡ OutOfMemory
accepted-two files name solution I P has =
    accepted files (two_files name solution) (record { instance = I; plan = P; older = None; journal = None; next = None })
    (record { inputs = has; older = refl; journal = refl; next = refl })

-- ---- journals that are accepted

-- a timetable is read from its file in one way
pub same-plan : (files : Names) (o : Option (List ℕ)) (I : Draft) (P Q : Timetable) → HasPlan (Some files) o I P → HasPlan (Some files) o I Q → P ≡ Q
same-plan files None I P Q first second = first ∙ sym second
same-plan files (Some name) I P Q first second = let same : Ok P ≡ Ok Q = sym first.read ∙ second.read in cc

pub base-same : (b c : Base) → b.instance ≡ c.instance → b.start ≡ c.start → b.options ≡ c.options → b.freeze ≡ c.freeze → b ≡ c
base-same b c i s o f =
    ap (λ (t : Draft × Timetable × Options × ℕ). let base : Base = record { instance = t.0; start = t.1; options = t.2; freeze = t.3 } in base)
    (let all : (b.instance, b.start, b.options, b.freeze) ≡ (c.instance, c.start, c.options, c.freeze) = rw (i, s, o, f) refl in all)

module _ (files : Names) (r : ReplayCall) (x : JournalRead) (has : HasRead (Some files) r x) where
  same-instance : (y : JournalRead) → HasRead (Some files) r y → y.instance ≡ x.instance
  same-instance y other = let same : Ok y.instance ≡ Ok x.instance = sym other.inputs.instance.read ∙ has.inputs.instance.read in cc

  same-start : (y : JournalRead) → HasRead (Some files) r y → y.plan ≡ x.plan
  same-start y other = same-plan files r.start.file x.instance y.plan x.plan
      (subst (λ (J : Draft). HasPlan (Some files) r.start.file J y.plan) (same-instance y other) other.inputs.plan) has.inputs.plan

  pub same-bytes : (y : JournalRead) → HasRead (Some files) r y → y.bytes ≡ x.bytes
  same-bytes y other = sym other.journal.held ∙ has.journal.held

  module _ (b : Base) (lines : List ℕ) (headed : IsHeadedBy r.start x b lines) where
    -- a journal with a heading isn't refused for it
    pub not-headless : (e : JournalRefusal) → IsRefused IsHeadless r (Some files) e → ⊥
    not-headless e h = h.why.none b.options lines headed.lawful headed.seed (same-bytes h.read h.given ∙ headed.joins)

    -- the heading and the lines are found in one way
    pub same-search : (y : JournalRead) (c : Base) (more : List ℕ) → HasRead (Some files) r y → IsHeadedBy r.start y c more → (c ≡ b) × (more ≡ lines)
    same-search y c more other found =
        let short_b = lawful_short b.options headed.lawful headed.seed in
        let short_c = lawful_short c.options found.lawful found.seed in
        let cut = first-apart (heading c.options) (heading b.options) more lines (heading_lacks c.options short_c) (heading_lacks b.options short_b)
        (sym found.joins ∙ (same-bytes y other ∙ headed.joins)) in
        let options = headings_differ c.options b.options short_c short_b cut.0 in
        let instance = found.started.instance ∙ (same-instance y other ∙ sym headed.started.instance) in
        let start : c.start ≡ b.start = found.started.start
        ∙ (ap₂ (λ (o : Options) (t : Draft × Timetable). started r.start.fill o.hard t.0 t.1) options
        (let both : (y.instance, y.plan) ≡ (x.instance, x.plan) = rw (same-instance y other, same-start y other) refl in both)
        ∙ sym headed.started.start) in
        (base-same c b instance start options (found.started.freeze ∙ sym headed.started.freeze), cut.1)

  -- the journal of a full history isn't refused
  pub not-refused : (b : Base) (H : List Entry) → IsHeadedBy r.start x b (lines_from b.options 0 H) → IsFull b 1 (tries H)
      → (e : JournalRefusal) → IsRefused (IsRefusedJournal r.start) r (Some files) e → ⊥
  not-refused b H headed full e h = elim h.why [
    | inl headless ↦ not-headless b (lines_from b.options 0 H) headed e (record { read = h.read; given = h.given; why = headless })
    | inr line ↦
        let same = same-search b (lines_from b.options 0 H) headed h.read line.base line.bytes h.given line.headed in
        line.none H (subst (λ (c : Base). IsFull c 1 (tries H)) (sym same.0) full)
        (same.1 ∙ ap (λ (c : Base). lines_from c.options 0 H) (sym same.0))
  ]

  -- with no fault, only lack of memory stops the reading
  pub journal-accepted : (status : Status) (text : List ℕ) → HasNoFault status → EndsUnread (Some files) (replay_inputs r) status text → status ≡ OutOfMemory
  journal-accepted =
      accepted files (replay_inputs r) (record { instance = x.instance; plan = x.plan; older = None; journal = Some x.bytes; next = None })
      (record { inputs = has.inputs; older = refl; journal = has.journal; next = refl })

  -- where no history is taken from it and it can be refused in one way, it is refused so
  module _ (left : Names) (taken : JournalRead → Base → List Entry → Type 0) (refused : JournalRead → JournalRefusal → Type 0)
      (said : Base → List Tried → ℕ → List ℕ) (never : (y : JournalRead) (b : Base) (H : List Entry) → HasRead (Some files) r y → taken y b H → ⊥)
      (refusal : JournalRefusal) (only : (e : JournalRefusal) → IsRefused refused r (Some files) e → e ≡ refusal) where
    pub refused-ends : (status : Status) (text : List ℕ) → HasNoFault status → JournalEnds taken refused said r (Some files) (Some left) status text
        → EndsIn (JournalRefused refusal) (journal_refused_text refusal) (Unit {0}) status text
    refused-ends status text calm h = elim (journal-faultless taken refused said r (Some files) (Some left) status text calm h) [
      | inl memory ↦ inl memory
      | inr (inl (is, (d, told))) ↦ absurd (never d.read d.base d.history d.given d.taken_is)
      | inr (inr (inl (is, (d, told)))) ↦ absurd (never d.read d.base d.history d.given d.taken_is)
      | inr (inr (inr (inl so))) ↦
          let here = only so.refusal so.why in
          inr (so.status_is ∙ ap JournalRefused here, so.said_is ∙ ap journal_refused_text here, tt)
      | inr (inr (inr (inr unread))) ↦ inl (journal-accepted status text calm unread)
    ]
