use Rattle.std.proofs.Common.{◌∙◌, ap}
use Rattle.std.specs.Prelude.{option_map}
use Rattle.ih_journal.specs.Tried.{tried}
use Rattle.ih_search_tests.proofs.TriedLists.{last-mapped-other, last-mapped-own, last-mapped-none, all-taken}
use Rattle.ih_search_tests.proofs.tests.rounds.last_by.Goals as goal
use Rattle.ih_search_tests.proofs.tests.rounds.last_by.Goals.{then-entry-worker, else-entry-worker}

pub loop-entry-init : goal.loop-entry-init
loop-entry-init c = last-mapped-none c.args.worker c.args.entries.now

pub loop-entry-preserved : goal.loop-entry-preserved
loop-entry-preserved c = elim c.if-entry-worker.branch [
  | then-entry-worker w ↦ ap (option_map tried) w.last-is ∙ last-mapped-own c.args.worker c.args.entries.now c.loop-entry.entry-index _ c.loop-entry-test.true w.if-entry-worker.true
  | else-entry-worker w ↦
      ap (option_map tried) w.last-is ∙ c.loop-entry.invariant ∙ last-mapped-other c.args.worker c.args.entries.now c.loop-entry.entry-index _ c.loop-entry-test.true w.if-entry-worker.false
]

pub returns : goal.returns
returns c = all-taken c.args.worker c.args.entries.now c.loop-entry.entry-index _ c.loop-entry-test.false c.loop-entry.invariant
