use Rattle.std.proofs.Common.{◌∙◌, ap, sym, length}
use Rattle.std.proofs.lemmas.List.{length-map}
use Rattle.std.proofs.lemmas.Result.{err_from_is_err_and}
use Rattle.ih_journal.specs.Tried.{tried}
use Rattle.ih_replay.specs.Refusals.{FitsIn, of_attempt, of_offer}
use Rattle.ih_replay.proofs.Checking.{own-attempt, small}
use Rattle.ih_replay.proofs.Firsts.{all-append, first-before, first-behind}
use Rattle.ih_replay.proofs.Offering.{legal-of}
use Rattle.ih_replay.proofs.Keeping.{worker-moved, worker-went}
use Rattle.ih_replay.proofs.taking.take_entry.Goals as goal

pub returns-in_err-check-clause-err : goal.returns-in_err-check-clause-err
returns-in_err-check-clause-err c =
    let v = c.args.book.now in
    let p = err_from_is_err_and c.from_residual.result c.from_residual.ensures.1 in
    rw (p.1, p.2) (first-before (FitsIn v.base v.entries (length v.entries) c.args.entry.now) of_attempt of_offer _ c.in_err-check.ensures.err)

pub returns-in_err-commit-clause-err : goal.returns-in_err-commit-clause-err
returns-in_err-commit-clause-err c =
    let v = c.args.book.now in
    let p = err_from_is_err_and c.from_residual-in_err-commit.result c.from_residual-in_err-commit.ensures.1 in
    rw (p.1, p.2) (first-behind (FitsIn v.base v.entries (length v.entries) c.args.entry.now) of_attempt of_offer _ c.in_ok-check.ensures.ok c.in_err-commit.ensures.err)

pub returns-in_err-commit-clause-kept : goal.returns-in_err-commit-clause-kept
returns-in_err-commit-clause-kept c =
    let v = c.args.book.now in
    worker-moved v.base c.commit.new.book.base v.entries c.commit.new.book.entries c.args.entry.now.worker c.args.worker.now c.commit.new.replica c.requires.kept
    c.commit.ensures.base c.in_err-commit.ensures.same c.commit.ensures.replica (c.commit.ensures.own ∙ c.reach.ensures.worker ∙ c.requires.kept.own)

pub go_on-requires-clause-number : goal.go_on-requires-clause-number
go_on-requires-clause-number c =
    let v = c.args.book.now in
    (small v.base v.entries c.args.entry.now c.args.worker.now c.requires.legal c.requires.kept c.requires.known c.in_ok-check.ensures.ok c.requires.base).0

pub returns-clause-kept : goal.returns-clause-kept
returns-clause-kept c =
    let v = c.args.book.now in
    let x = c.args.worker.now in
    let own = own-attempt v.base v.entries c.args.entry.now x c.requires.legal c.requires.kept c.requires.known c.in_ok-check.ensures.ok in
    worker-went v.base c.commit.new.book.base v.entries c.commit.new.book.entries (tried c.args.entry.now) (record x { replica = c.commit.new.replica }) c.go_on.new.self
    c.args.inst.now.draft c.args.options.now _ c.commit.ensures.base c.in_ok-commit.ensures.added own.0 own.1 c.requires.kept.draw c.requires.kept.stream c.commit.ensures.replica
    (c.commit.ensures.own ∙ c.reach.ensures.worker ∙ c.requires.kept.own) c.requires.instance c.requires.options
    (sym (length-map c.entries.result.now tried) ∙ ap length c.entries.ensures.entries) c.go_on.ensures

pub returns-clause-legal : goal.returns-clause-legal
returns-clause-legal c =
    let v = c.args.book.now in
    legal-of v.base v.entries c.args.entry.now c.requires.move_in
    (all-append (FitsIn v.base v.entries (length v.entries) c.args.entry.now) of_attempt of_offer c.in_ok-check.ensures.ok c.in_ok-commit.ensures.ok)
