-- Laws of offers and histories, for whoever hands a book from worker to worker.
use Rattle.std.specs.Prelude.{◌≡◌, ℕ, ◌+◌, ◌*◌, ◌<◌, ◌≤◌, ◌^◌, List, ◌++◌, length, Some, slice_get, false}
use Rattle.ih_tables.specs.Valid.{IsValid}
use Rattle.ih_plan.specs.Timetable.{IsPlanOf}
use Rattle.ih_journal.specs.declared.entries.Entry.{Entry}
use Rattle.ih_journal.specs.Tried.{Tried, tries}
use Rattle.ih_journal.specs.Settings.{most_entries}
use Rattle.ih_journal.specs.Attempts.{is_done}
use Rattle.ih_journal.specs.Base.{Base}
use Rattle.ih_journal.specs.Grammar.{IsHistoryOf}
use Rattle.ih_journal.specs.Texts.{journal}
use Rattle.ih_cellbook.specs.Offered.{Offered}
use Rattle.ih_cellbook.specs.Keeping.{IsBase}
use Rattle.ih_cellbook.specs.Legal.{AreExact, AreLegalButDraws}
use Rattle.ih_cellbook.specs.Offers.{IsRightOffer}

-- none of the entries is by worker w
abbrev pub HasNoneBy : ℕ → List Tried → Type 0
HasNoneBy w es = (k : ℕ) (e : Tried) → slice_get es k ≡ Some e → e.worker ≡ w → ⊥

-- An offer that is right for a history stays right while others add entries.
abbrev pub RightOffersStayRight : Type 0
RightOffersStayRight = (b : Base) (H es : List Tried) (o : Offered) → IsRightOffer b H o → HasNoneBy o.worker es
    → IsRightOffer b (H ++ es) o

-- A history that is legal but for its draws has at most one entry for each try of each attempt of each worker, and
-- fewer where some worker isn't done.
pub record AreFew (b : Base) (H : List Tried) : Type 0 where
  pub most : length H ≤ most_entries b.options
  pub fewer : (w : ℕ) → w < b.options.workers → is_done b.options H w ≡ false → length H < most_entries b.options

abbrev pub LegalHistoriesAreFew : Type 0
LegalHistoriesAreFew = (b : Base) (H : List Tried) → AreLegalButDraws b H → AreFew b H

-- However old the accepted prices of a legal history are, each is the change of the bill at its own place.
abbrev pub AcceptedPricesAreExact : Type 0
AcceptedPricesAreExact = (b : Base) (H : List Tried) → IsPlanOf b.instance b.start → AreLegalButDraws b H → AreExact b H

-- A search may have these options and begin with this timetable.
pub record IsSearchBase (b : Base) : Type 0 where
  pub valid : IsValid b.instance
  pub base : IsBase b
  pub seed : b.options.seed < 2 ^ 64

-- What is legal is in range, so a journal may have it.
abbrev pub LegalHistoriesAreInRange : Type 0
LegalHistoriesAreInRange = (b : Base) (H : List Entry) → IsSearchBase b → AreLegalButDraws b (tries H)
    → IsHistoryOf b.instance b.options H

-- Two searches of an instance that differ in their options or in an entry have two journals, also where they begin
-- with different timetables.
abbrev pub JournalsTellSearchesApart : Type 0
JournalsTellSearchesApart = (b c : Base) (H G : List Entry) → IsSearchBase b → IsSearchBase c → b.instance ≡ c.instance
    → AreLegalButDraws b (tries H) → AreLegalButDraws c (tries G) → journal b.options H ≡ journal c.options G
    → (b.options ≡ c.options) × (H ≡ G)

-- The journal of a legal history has at most 256 bytes for each entry, and 128 for its heading.
abbrev pub LegalJournalsAreShort : Type 0
LegalJournalsAreShort = (b : Base) (H : List Entry) → IsSearchBase b → AreLegalButDraws b (tries H)
    → length (journal b.options H) ≤ 128 + 256 * length H
