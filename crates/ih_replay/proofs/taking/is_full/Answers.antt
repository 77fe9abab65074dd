use Rattle.std.proofs.Common.{arith, subst, ◌<◌, ◌≤◌}
use Rattle.ih_journal.specs.declared.settings.Options.{Options}
use Rattle.ih_replay.specs.declared.workers.ReplayWorker.{ReplayWorker}
use Rattle.ih_replay.proofs.Going.{done-at, done-more, going-at}
use Rattle.ih_replay.proofs.taking.is_full.Goals as goal

pub returns-then-worker-options-clause-going : goal.returns-then-worker-options-clause-going
returns-then-worker-options-clause-going c off =
    going-at c.args.book.now.base c.args.book.now.entries c.args.workers.now c.requires.kept c.loop-worker.worker-index c.worker-item.result c.loop-worker-test.true
    (subst (λ (x : ReplayWorker). x.number < c.args.book.now.base.options.moves) c.worker-item.is
    (subst (λ (o : Options). c.worker-item.result.number < o.moves) c.requires.options c.if-worker-options.true))

pub loop-worker-preserved : goal.loop-worker-preserved
loop-worker-preserved c =
    let some = c.if-worker-options.false in
    let past : c.args.options.now.moves ≤ c.worker-item.result.number = omega (arith, some) in
    let here = done-at c.args.book.now.base c.args.book.now.entries c.args.workers.now c.requires.kept c.loop-worker.worker-index c.worker-item.result c.loop-worker-test.true
    (subst (λ (x : ReplayWorker). c.args.book.now.base.options.moves ≤ x.number) c.worker-item.is (subst (λ (o : Options). o.moves ≤ c.worker-item.result.number) c.requires.options past)) in
    record { done = done-more c.args.book.now.base c.args.book.now.entries c.args.workers.now c.requires.kept c.loop-worker.worker-index c.worker-item.result c.loop-worker.invariant.done here }
