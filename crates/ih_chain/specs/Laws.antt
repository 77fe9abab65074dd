-- The laws of chains of one move, and of how long journals of chains are and what they tell.
use Rattle.std.specs.Prelude.{◌≡◌, ℕ, ◌+◌, ◌*◌, ◌≤◌, List, [], ◌∷◌, length}
use Rattle.ih_journal.specs.Base.{Base}
use Rattle.ih_journal.specs.Legal.{AreLegal}
use Rattle.ih_journal.specs.declared.entries.Entry.{Entry}
use Rattle.ih_journal.specs.declared.settings.Options.{Options}
use Rattle.ih_journal.specs.Texts.{line_text}
use Rattle.ih_journal.specs.Tried.{tries}
use Rattle.ih_cellbook.specs.Laws.{IsSearchBase}
use Rattle.ih_cellbook.specs.Legal.{AreLegalButDraws}
use Rattle.ih_chain.specs.declared.entries.ChainEntry.{ChainEntry}
use Rattle.ih_chain.specs.Entries.{chain_tries}
use Rattle.ih_chain.specs.Texts.{chain_journal, chain_line}

-- the entry of a chain of that move
abbrev pub as_chain : Entry → ChainEntry
as_chain e = record {
  worker = e.worker;
  number = e.number;
  seen = e.seen;
  moves = e.mv ∷ [];
  price = e.price;
  verdict = e.verdict;
}

-- A chain of one move has the line of that move, where no move is tried again.
abbrev pub SinglesHaveTheSameLine : Type 0
SinglesHaveTheSameLine = (o : Options) (k : ℕ) (e : Entry) → o.retries ≡ 0 → chain_line k (as_chain e) ≡ line_text o k e

-- The journal of a legal history of chains of at most eight moves has at most 226 bytes for each chain and 29 for each
-- of its moves, and 128 for its heading.
abbrev pub ChainJournalsAreShort : Type 0
ChainJournalsAreShort = (b : Base) (each : ℕ) (H : List ChainEntry) → IsSearchBase b → each ≤ 8
    → AreLegal b each (chain_tries H)
    → length (chain_journal b.options each H) ≤ 128 + (226 + 29 * each) * length H

-- Two searches of an instance by chains of at most eight moves, without retries, that differ in their options, in the
-- length of their chains or in an entry have two journals, also where they begin with different timetables.
abbrev pub ChainJournalsTellSearchesApart : Type 0
ChainJournalsTellSearchesApart = (b c : Base) (i j : ℕ) (H G : List ChainEntry) → IsSearchBase b → IsSearchBase c
    → b.instance ≡ c.instance → b.options.retries ≡ 0 → c.options.retries ≡ 0 → i ≤ 8 → j ≤ 8
    → AreLegalButDraws b (chain_tries H) → AreLegalButDraws c (chain_tries G)
    → chain_journal b.options i H ≡ chain_journal c.options j G → (b.options ≡ c.options) × (i ≡ j) × (H ≡ G)

-- A legal history of chains of one move is one of single moves.
abbrev pub SinglesAreHistoriesOfMoves : Type 0
SinglesAreHistoriesOfMoves = (b : Base) (H : List ChainEntry) → AreLegal b 1 (chain_tries H) → (G : List Entry)
    × (tries G ≡ chain_tries H)
