-- Laws of rounds.
use Rattle.std.specs.Prelude.{◌≡◌, ℕ, ◌+◌, ◌*◌, ◌<◌, ◌≤◌, ◌≤ℤ◌, List, length, Some, slice_get}
use Rattle.ih_tables.specs.Valid.{IsValid}
use Rattle.ih_journal.specs.Tried.{tries}
use Rattle.ih_journal.specs.Base.{Base}
use Rattle.ih_journal.specs.Best.{IsBest}
use Rattle.ih_journal.specs.Grammar.{IsHistoryOf}
use Rattle.ih_journal.specs.Settings.{most_entries}
use Rattle.ih_cellbook.specs.Laws.{IsSearchBase}
use Rattle.ih_rounds.specs.Best.{cost_in}
use Rattle.ih_rounds.specs.Rounds.{AreRounds, Round, base_in, histories, journals, options_in}

-- each history of the rounds is one that a journal can have
abbrev pub AreInRange : Base → List Round → Type 0
AreInRange b rs =
    (q : ℕ) (r : Round) → slice_get rs q ≡ Some r → IsHistoryOf b.instance (options_in b.options q) r.history

-- The journals of rounds, one after the other, can be parted again: their bytes tell which histories they are.
abbrev pub JournalsCanBeParted : Type 0
JournalsCanBeParted = (b : Base) (rs ss : List Round) → IsValid b.instance → AreInRange b rs → AreInRange b ss
    → journals b.options 0 rs ≡ journals b.options 0 ss → histories rs ≡ histories ss

-- The bytes of the journals tell the histories of a run of rounds over an instance and, where there is any round, the
-- options, also where two runs begin with different timetables. Of what a run was given they tell each round's start.
abbrev pub JournalsTellRoundsApart : Type 0
JournalsTellRoundsApart = (b c : Base) (rs ss : List Round) → IsSearchBase b → IsSearchBase c → b.instance ≡ c.instance
    → AreRounds b rs → AreRounds c ss → journals b.options 0 rs ≡ journals c.options 0 ss
    → (histories rs ≡ histories ss) × (0 < length rs → b.options ≡ c.options) × (b ≡ c → rs ≡ ss)

-- The journals of rounds have at most 128 bytes for the heading of each, and 256 for each entry that it may have.
abbrev pub RoundJournalsAreShort : Type 0
RoundJournalsAreShort = (b : Base) (rs : List Round) → IsSearchBase b → AreRounds b rs
    → length (journals b.options 0 rs) ≤ (128 + 256 * most_entries b.options) * length rs

-- Those of at most sixteen rounds, which together may have a million entries, have 16 * 128 + 256 * 1000000 at most.
abbrev pub SixteenJournalsAreShort : Type 0
SixteenJournalsAreShort = (b : Base) (rs : List Round) → IsSearchBase b → AreRounds b rs
    → length rs ≤ 16 → most_entries b.options * length rs ≤ 1000000
    → length (journals b.options 0 rs) ≤ 256002048

-- the history of round q has a best, which costs no more than place k of round p
pub record IsNoDearer (b : Base) (q : ℕ) (s : Round) (p : ℕ) (r : Round) (k : ℕ) : Type 0 where
  pub place : ℕ
  pub best : IsBest (base_in b q s) (tries s.history) place
  pub cost : cost_in b q s place ≤ℤ cost_in b p r k

-- Where a round has a best, each later round has one that costs no more.
abbrev pub RoundsGetNoDearer : Type 0
RoundsGetNoDearer = (b : Base) (rs : List Round) → AreRounds b rs
    → (p q k : ℕ) (r s : Round) → slice_get rs p ≡ Some r → slice_get rs q ≡ Some s → p < q
    → IsBest (base_in b p r) (tries r.history) k → IsNoDearer b q s p r k
