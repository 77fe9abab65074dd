use Rattle.ih_search_tests.proofs.TriedLists.{none-mapped-all, none-mapped-next, none-mapped-none}
use Rattle.ih_search_tests.proofs.tests.rounds.none_by.Goals as goal

pub loop-entry-init : goal.loop-entry-init
loop-entry-init c = none-mapped-none c.args.worker c.args.entries.now

pub loop-entry-preserved : goal.loop-entry-preserved
loop-entry-preserved c = none-mapped-next c.args.worker c.args.entries.now c.loop-entry.entry-index _ c.loop-entry-test.true c.loop-entry.invariant c.if-entry-worker.false

pub returns : goal.returns
returns c on = none-mapped-all c.args.worker c.args.entries.now c.loop-entry.entry-index c.loop-entry-test.false c.loop-entry.invariant
