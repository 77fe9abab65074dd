use Rattle.std.proofs.lemmas.Result.{err_from_is_err_and}
use Rattle.ih_inputs.specs.Reading.{files_of}
use Rattle.ih_inputs.proofs.Causes.{cause-from, only-then}
use Rattle.ih_inputs.proofs.reading.read_inputs.Goals as goal

-- each read came behind those before it

pub returns-in_err-plan-clause-cause : goal.returns-in_err-plan-clause-cause
returns-in_err-plan-clause-cause g c =
    let p = err_from_is_err_and c.from_residual-in_err-plan.result c.from_residual-in_err-plan.ensures.1 in
    rw (p.1, p.2)
    (cause-from g.S.Shelf (files_of c.args.names.now) _ _ _ c.read_first_instance.ensures.only _ c.in_err-plan.ensures.cause)

pub returns-in_err-older-clause-cause : goal.returns-in_err-older-clause-cause
returns-in_err-older-clause-cause g c =
    let p = err_from_is_err_and c.from_residual-in_err-older.result c.from_residual-in_err-older.ensures.1 in
    rw (p.1, p.2)
    (cause-from g.S.Shelf (files_of c.args.names.now) _ _ _
    (only-then g.S.Shelf _ _ _ c.read_first_instance.ensures.only c.read_first_plan.ensures.only) _ c.in_err-older.ensures.cause)

pub returns-in_err-journal-clause-cause : goal.returns-in_err-journal-clause-cause
returns-in_err-journal-clause-cause g c =
    let p = err_from_is_err_and c.from_residual-in_err-journal.result c.from_residual-in_err-journal.ensures.1 in
    rw (p.1, p.2)
    (cause-from g.S.Shelf (files_of c.args.names.now) _ _ _
    (only-then g.S.Shelf _ _ _ (only-then g.S.Shelf _ _ _ c.read_first_instance.ensures.only c.read_first_plan.ensures.only) c.read_older.ensures.only)
    _ c.in_err-journal.ensures.cause)

pub returns-in_err-inputs-clause-cause : goal.returns-in_err-inputs-clause-cause
returns-in_err-inputs-clause-cause g c =
    let p = err_from_is_err_and c.from_residual-in_err-inputs.result c.from_residual-in_err-inputs.ensures.1 in
    rw (p.1, p.2)
    (cause-from g.S.Shelf (files_of c.args.names.now) _ _ _
    (only-then g.S.Shelf _ _ _
    (only-then g.S.Shelf _ _ _ (only-then g.S.Shelf _ _ _ c.read_first_instance.ensures.only c.read_first_plan.ensures.only) c.read_older.ensures.only)
    c.read_journal.ensures.only) _ c.in_err-inputs.ensures.cause)
