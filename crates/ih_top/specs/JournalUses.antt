-- What a journal is read for: which histories are taken from it, how it is refused, what is said of it, and how the call
-- ends.
use Rattle.std.specs.Prelude.{◌≡◌, ℕ, ◌⊎◌, List, Option}
use Rattle.ih_top.specs.Below.Wards.{JournalRefusal}
use Rattle.ih_top.specs.Below.Arguments.{ReplayCall, StartCall}
use Rattle.ih_top.specs.Below.Endings.{Given, Names, OutcomeState, Status}
use Rattle.ih_top.specs.Below.Searches.{Base, Entry, IsFull, Tried, lines_from, tries}
use Rattle.ih_top.specs.Histories.{IsSound}
use Rattle.ih_top.specs.JournalLines.{IsRefusedAt, Begins}
use Rattle.ih_top.specs.Texts.{done_text, salvaged_text}
use Rattle.ih_top.specs.JournalEnds.{JournalEnds}
use Rattle.ih_top.specs.JournalFiles.{JournalRead, IsHeadedBy, IsHeadless, read_of}
use Rattle.ih_top.specs.declared.journals.JournalUse.{JournalUse}
use Rattle.ih_top.specs.declared.journals.JournalUse.TheVariants.{Replay, Salvage}
use Rattle.ih_top.specs.declared.outcome.JournalOutcome.{JournalOutcome}
use Rattle.ih_top.specs.Outputs.{IsOutcome, journal_outcome}

-- the journal is that of a full history of the search
pub record IsReplay (s : StartCall) (x : JournalRead) (b : Base) (H : List Entry) : Type 0 where
  pub headed : IsHeadedBy s x b (lines_from b.options 0 H)
  pub full : IsFull b 1 (tries H)
  pub sound : IsSound b (tries H)

-- the bytes are the lines of no full history
abbrev pub AreNotFull : Base → List ℕ → Type 0
AreNotFull b bytes = (H : List Entry) → IsFull b 1 (tries H) → bytes ≡ lines_from b.options 0 H → ⊥

-- a line behind the heading is the first that isn't as it ought to be
pub record HasRefusedLine (s : StartCall) (x : JournalRead) (e : JournalRefusal) : Type 0 where
  pub base : Base
  pub history : List Entry
  pub bytes : List ℕ
  pub headed : IsHeadedBy s x base bytes
  pub refused : IsRefusedAt base bytes history e
  pub none : AreNotFull base bytes

-- the journal is that of no full history of the search
abbrev pub IsRefusedJournal : StartCall → JournalRead → JournalRefusal → Type 0
IsRefusedJournal s x e = IsHeadless x e ⊎ HasRefusedLine s x e

abbrev pub ReplayEnds : ReplayCall → Option Names → Option Names → Status → List ℕ → Type 0
ReplayEnds r old new status text =
    JournalEnds (IsReplay r.start) (IsRefusedJournal r.start) done_text r old new status text

-- H is the longest legal history of the search whose lines follow the journal's heading
pub record IsSalvage (s : StartCall) (x : JournalRead) (b : Base) (H : List Entry) : Type 0 where
  pub bytes : List ℕ
  pub rest : List ℕ
  pub headed : IsHeadedBy s x b bytes
  pub begins : Begins b bytes H rest
  pub sound : IsSound b (tries H)

abbrev pub SalvageEnds : ReplayCall → Option Names → Option Names → Status → List ℕ → Type 0
SalvageEnds r old new status text = JournalEnds (IsSalvage r.start) IsHeadless salvaged_text r old new status text

abbrev pub taken_for : JournalUse → StartCall → JournalRead → Base → List Entry → Type 0
taken_for Replay = IsReplay
taken_for Salvage = IsSalvage

-- salvage judges the heading alone: what comes behind it may be anything
abbrev pub refused_for : JournalUse → StartCall → JournalRead → JournalRefusal → Type 0
refused_for Replay = IsRefusedJournal
refused_for Salvage = λ s. IsHeadless

abbrev pub said_for : JournalUse → Base → List Tried → ℕ → List ℕ
said_for Replay = done_text
said_for Salvage = salvaged_text

-- what the journal comes to
abbrev pub IsOutcomeFor : JournalUse → StartCall → JournalRead → JournalOutcome → Type 0
IsOutcomeFor journal_use s x o =
    IsOutcome (taken_for journal_use s x) (refused_for journal_use s x) (said_for journal_use) o

-- what the lines behind a heading come to: the journal comes to that, whichever it is
unfoldable pub IsLinesFor : JournalUse → Base → List ℕ → JournalOutcome → Type 0
IsLinesFor journal_use b bytes o =
    (s : StartCall) (x : JournalRead) → IsHeadedBy s x b bytes → IsOutcomeFor journal_use s x o

-- what the call comes to: what the journal comes to is written and said
pub record IsJournalUse (journal_use : JournalUse) (r : ReplayCall) (g : Given) (o : OutcomeState) : Type 0 where
  pub found : JournalOutcome
  pub is : IsOutcomeFor journal_use r.start (read_of g) found
  pub left : o ≡ journal_outcome r.out found

-- how the call ends
abbrev pub JournalUseEnds : JournalUse → ReplayCall → Option Names → Option Names → Status → List ℕ → Type 0
JournalUseEnds journal_use r old new status text =
    JournalEnds (taken_for journal_use r.start) (refused_for journal_use r.start) (said_for journal_use) r old new
    status text
