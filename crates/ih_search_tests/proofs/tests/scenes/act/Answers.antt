use Rattle.ih_search_tests.proofs.NewReplicas.{new-in}
use Rattle.ih_search_tests.proofs.tests.scenes.act.Goals as goal

pub step_all-requires-clause-replica : goal.step_all-requires-clause-replica
step_all-requires-clause-replica c =
    new-in _ c.args.book.now.base c.args.book.now.entries c.in-Ok.replica c.requires.base c.in-Ok.ensures.replica
