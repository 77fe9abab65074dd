-- Searches, their histories and what is written of them.
pub use Rattle.ih_fill.specs.Fill.{fill}
pub use Rattle.ih_fill.specs.Starts.{started}
pub use Rattle.ih_journal.specs.Attempts.{is_stale}
pub use Rattle.ih_journal.specs.Base.{Base}
pub use Rattle.ih_journal.specs.Best.{BestIs, HasNone, IsBest}
pub use Rattle.ih_journal.specs.Frozen.{AgreesBefore}
pub use Rattle.ih_journal.specs.History.{is_accepted, plan_at}
pub use Rattle.ih_journal.specs.Legal.{AreLegal, IsFull, IsLegal}
pub use Rattle.ih_journal.specs.Settings.{IsLawful, most_entries}
pub use Rattle.ih_journal.specs.Texts.{ended, heading, journal, line_text, lines_from}
pub use Rattle.ih_journal.specs.Tried.{Tried, tried, tries}
pub use Rattle.ih_journal.specs.declared.entries.Entry.{Entry}
pub use Rattle.ih_journal.specs.declared.settings.Options.{Options}
pub use Rattle.ih_journal.specs.declared.settings.TheConstants.{MAX_ENTRIES, MAX_MOVES, MAX_RETRIES}
pub use Rattle.ih_cellbook.specs.Keeping.{IsBase, base_with}
pub use Rattle.ih_cellbook.specs.Laws.{AcceptedPricesAreExact, IsSearchBase, JournalsTellSearchesApart, LegalJournalsAreShort}
pub use Rattle.ih_cellbook.specs.Legal.{AreExact, AreLegalButDraws}
pub use Rattle.ih_desk.specs.Searching.{base_given}
pub use Rattle.ih_chain.specs.Entries.{chain_tried, chain_tries}
pub use Rattle.ih_chain.specs.Laws.{ChainJournalsAreShort, ChainJournalsTellSearchesApart}
pub use Rattle.ih_chain.specs.Texts.{chain_journal}
pub use Rattle.ih_chain.specs.declared.entries.ChainEntry.{ChainEntry}
pub use Rattle.ih_rounds.specs.Best.{ComesBefore, HaveNone, IsBestOf}
pub use Rattle.ih_rounds.specs.Laws.{JournalsTellRoundsApart, SixteenJournalsAreShort}
pub use Rattle.ih_rounds.specs.Rounds.{AreRounds, Round, base_in, histories, journals, options_in}
pub use Rattle.ih_rounds.specs.declared.running.RoundsEnd.{RoundsEnd}
pub use Rattle.ih_rounds.specs.declared.running.RoundsEnd.TheVariants.{Found, NoneFound}
pub use Rattle.ih_replay.specs.Laws.{LegalJournalsAreTaken, LegalJournalsDiffer, TakenLinesAreOfLegalHistories, Takes}
pub use Rattle.ih_replay.specs.Refusals.{IsGoing, IsNextLine, IsRefusedFor, Passes, in_order, of_entry, of_place}
pub use Rattle.ih_replay.specs.ReplayState.{ReplayState}
