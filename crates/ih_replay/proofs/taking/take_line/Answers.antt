use Rattle.std.proofs.Common.{◌<◌, ◌≤◌, arith, subst}
use Rattle.std.proofs.lemmas.Result.{err_from_is_err_and, IfErr-weaker}
use Rattle.ih_journal.specs.declared.settings.Options.{Options}
use Rattle.ih_journal.specs.Tried.{tried}
use Rattle.ih_replay.proofs.Going.{worker-at}
use Rattle.ih_replay.proofs.Keeping.{replayed-by}
use Rattle.ih_replay.proofs.Refusing.{refused-entry, refused-extra, refused-read, refused-worker}
use Rattle.ih_replay.proofs.taking.take_line.Goals as goal

pub returns-then-is_full-clause-err : goal.returns-then-is_full-clause-err
returns-then-is_full-clause-err c = refused-extra c.args.book.now.base c.args.book.now.entries c.args.line.now (c.is_full.ensures.full c.if-is_full.true)

pub returns-in_err-entry-clause-err : goal.returns-in_err-entry-clause-err
returns-in_err-entry-clause-err c =
    let p = err_from_is_err_and c.from_residual.result c.from_residual.ensures.1 in
    rw (p.1, p.2) (refused-read c.args.book.now.base c.args.book.now.entries c.args.line.now (c.is_full.ensures.going c.if-is_full.false) _ c.in_err-entry.ensures.err)

pub returns-then-entry-options-clause-err : goal.returns-then-entry-options-clause-err
returns-then-entry-options-clause-err c =
    refused-worker c.args.book.now.base c.args.book.now.entries c.args.line.now (c.is_full.ensures.going c.if-is_full.false) c.in_ok-entry.entry c.in_ok-entry.ensures.ok c.in_ok-entry.ensures.only
    (subst (λ (o : Options). o.workers ≤ c.in_ok-entry.entry.worker) c.requires.options c.if-entry-options.true)

pub take_entry-requires-clause-kept : goal.take_entry-requires-clause-kept
take_entry-requires-clause-kept c =
    worker-at c.args.book.now.base c.args.book.now.entries c.args.workers.now c.requires.kept c.in_ok-entry.entry.worker _
    (let known = c.if-entry-options.false in let below : c.in_ok-entry.entry.worker
    < c.args.options.now.workers = omega (arith, known) in subst (λ (o : Options). c.in_ok-entry.entry.worker < o.workers) c.requires.options below)

pub returns-clause-kept : goal.returns-clause-kept
returns-clause-kept c =
    let v = c.args.book.now in
    let known = c.if-entry-options.false in
    let below : c.in_ok-entry.entry.worker < c.args.options.now.workers = omega (arith, known) in
    replayed-by v.base c.take_entry.new.book.base v.entries c.take_entry.new.book.entries c.args.workers.now (tried c.in_ok-entry.entry) c.take_entry.new.worker c.take_entry.result c.requires.kept
    (subst (λ (o : Options). c.in_ok-entry.entry.worker
    < o.workers) c.requires.options below) c.take_entry.ensures.base c.take_entry.ensures.kept c.take_entry.ensures.legal c.take_entry.ensures.added c.take_entry.ensures.same

pub returns-clause-err : goal.returns-clause-err
returns-clause-err c =
    let v = c.args.book.now in
    IfErr-weaker c.take_entry.result _ _
    (λ r first. refused-entry v.base v.entries c.args.line.now (c.is_full.ensures.going c.if-is_full.false) c.in_ok-entry.entry c.in_ok-entry.ensures.ok c.in_ok-entry.ensures.only r first)
    c.take_entry.ensures.err
