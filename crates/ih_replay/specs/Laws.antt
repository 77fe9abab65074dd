-- Stepping through the lines of a journal: which runs of lines are taken.
use Rattle.std.specs.Prelude.{◌≡◌, ℕ, ◌+◌, List, [], ◌∷◌, ◌++◌, length, take}
use Rattle.ih_tables.specs.Valid.{IsValid}
use Rattle.ih_journal.specs.declared.entries.Entry.{Entry}
use Rattle.ih_journal.specs.Tried.{tries}
use Rattle.ih_journal.specs.declared.settings.Options.{Options}
use Rattle.ih_journal.specs.Base.{Base}
use Rattle.ih_journal.specs.Grammar.{parted}
use Rattle.ih_journal.specs.Legal.{AreLegal}
use Rattle.ih_journal.specs.Texts.{line_text, lines_from}
use Rattle.ih_cellbook.specs.Keeping.{IsBase}
use Rattle.ih_replay.specs.Refusals.{IsNextLine}

-- the texts of the lines of entries from place k on
unfoldable pub line_texts : Options → ℕ → List Entry → List (List ℕ)
line_texts o k [] = []
line_texts o k (e ∷ es) = line_text o k e ∷ line_texts o (k + 1) es

-- after the history H each of the lines is taken, one after another, which leads to the history G
unfoldable pub Takes : Base → List Entry → List (List ℕ) → List Entry → Type 0
Takes b H [] G = G ≡ H
Takes b H (line ∷ lines) G = (e : Entry) × IsNextLine b H line e × Takes b (H ++ e ∷ []) lines G

-- Lines that are taken are those of the history that they lead to, which is legal.
abbrev pub TakenLinesAreOfLegalHistories : Type 0
TakenLinesAreOfLegalHistories = (b : Base) (lines : List (List ℕ)) (G : List Entry) → Takes b [] lines G
    → AreLegal b 1 (tries G) × (lines ≡ line_texts b.options 0 G)

-- The bytes that follow a journal's heading, and a last piece of them that has no line feed: of a legal history's
-- journal that may be cut off anywhere, each whole line is taken. Where nothing is cut off, that leads to the whole
-- history, and the last piece is empty.
pub record IsTakenAsFar (b : Base) (G : List Entry) (more : List ℕ) (lines : List (List ℕ))
    (last : List ℕ) : Type 0 where
  pub taken : Takes b [] lines (take (length lines) G)
  pub whole : more ≡ [] → (last ≡ []) × (length lines ≡ length G)

abbrev pub LegalJournalsAreTaken : Type 0
LegalJournalsAreTaken = (b : Base) (G : List Entry) (bytes more : List ℕ) (lines : List (List ℕ)) (last : List ℕ)
    → IsValid b.instance → IsBase b → AreLegal b 1 (tries G)
    → bytes ++ more ≡ lines_from b.options 0 G → parted 10 bytes ≡ lines ++ last ∷ [] → IsTakenAsFar b G more lines last

-- Lines lead to one history alone, so two legal histories of one text are equal.
abbrev pub LegalJournalsDiffer : Type 0
LegalJournalsDiffer = (b : Base) (H G : List Entry) → IsValid b.instance → IsBase b → AreLegal b 1 (tries H)
    → AreLegal b 1 (tries G) → lines_from b.options 0 H ≡ lines_from b.options 0 G → H ≡ G
