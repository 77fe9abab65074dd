use Rattle.std.proofs.Common.{◌≡◌, ℕ, ◌<◌, ◌≤◌, arith, refl, subst}
use Rattle.ih_journal.specs.declared.settings.Options.{Options}
use Rattle.ih_replay.proofs.Checking.{attempt-holds, move-other, number-other, seen-other, try-other, worker-done}
use Rattle.ih_replay.proofs.taking.check.Goals as goal

pub returns-then-worker-options-clause-err : goal.returns-then-worker-options-clause-err
returns-then-worker-options-clause-err c =
    worker-done _ _ c.args.entry.now _ c.requires.legal c.requires.kept c.requires.known
    (subst (λ (o : Options). o.moves ≤ c.args.worker.now.number) c.requires.options c.if-worker-options.true)

-- what is below the moves of the options
under : (n : ℕ) (o p : Options) → o ≡ p → n < o.moves → n < p.moves
under n o p same below = subst (λ (q : Options). n < q.moves) same below

pub returns-then-entry-worker-clause-err : goal.returns-then-entry-worker-clause-err
returns-then-entry-worker-clause-err c =
    number-other _ _ c.args.entry.now _ c.requires.legal c.requires.kept c.requires.known
    (under c.args.worker.now.number _ _ c.requires.options (omega (arith, c.if-worker-options.false))) c.if-entry-worker.true

pub returns-then-entry-worker-2-clause-err : goal.returns-then-entry-worker-2-clause-err
returns-then-entry-worker-2-clause-err c =
    try-other _ _ c.args.entry.now _ c.requires.legal c.requires.kept c.requires.known (under c.args.worker.now.number _ _ c.requires.options (omega (arith, c.if-worker-options.false)))
    (omega (arith, c.if-entry-worker.false)) c.if-entry-worker-2.true

pub returns-then-not-may_have_seen-clause-err : goal.returns-then-not-may_have_seen-clause-err
returns-then-not-may_have_seen-clause-err c =
    seen-other _ _ c.args.entry.now _ c.requires.legal c.requires.kept c.requires.known (under c.args.worker.now.number _ _ c.requires.options (omega (arith, c.if-worker-options.false)))
    (omega (arith, c.if-entry-worker.false)) (omega (arith, c.if-entry-worker-2.false)) (c.if-not-may_have_seen.ensures.no refl)

pub returns-then-not-is_same_move-clause-err : goal.returns-then-not-is_same_move-clause-err
returns-then-not-is_same_move-clause-err c =
    move-other _ _ c.args.entry.now _ c.requires.legal c.requires.kept c.requires.known (under c.args.worker.now.number _ _ c.requires.options (omega (arith, c.if-worker-options.false)))
    (omega (arith, c.if-entry-worker.false)) (omega (arith, c.if-entry-worker-2.false)) (c.if-not-may_have_seen.ensures.yes refl) (c.if-not-is_same_move.ensures.no refl)

pub returns-else-not-is_same_move-clause-ok : goal.returns-else-not-is_same_move-clause-ok
returns-else-not-is_same_move-clause-ok c =
    attempt-holds _ _ c.args.entry.now _ c.requires.legal c.requires.kept c.requires.known (under c.args.worker.now.number _ _ c.requires.options (omega (arith, c.if-worker-options.false)))
    (omega (arith, c.if-entry-worker.false)) (omega (arith, c.if-entry-worker-2.false)) (c.if-not-may_have_seen.ensures.yes refl) (c.if-not-is_same_move.ensures.yes refl)
