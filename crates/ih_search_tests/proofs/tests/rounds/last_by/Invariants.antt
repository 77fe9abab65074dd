use Rattle.std.proofs.Common.{◌≡◌, take}
use Rattle.std.specs.Prelude.{option_map}
use Rattle.ih_journal.specs.Attempts.{last_by}
use Rattle.ih_journal.specs.Tried.{tried, tries}
use Rattle.ih_search_tests.proofs.tests.rounds.last_by.Given as goal

abbrev pub invariant-loop-entry : goal.invariant-loop-entry
invariant-loop-entry l = option_map tried l.last ≡ last_by l.worker (take l.entry-index (tries l.entries))
