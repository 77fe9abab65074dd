use Rattle.std.proofs.Common.{take}
use Rattle.ih_journal.specs.Tried.{tries}
use Rattle.ih_cellbook.specs.Laws.{HasNoneBy}
use Rattle.ih_search_tests.proofs.tests.rounds.none_by.Given as goal

abbrev pub invariant-loop-entry : goal.invariant-loop-entry
invariant-loop-entry l = HasNoneBy l.worker (take l.entry-index (tries l.entries))
