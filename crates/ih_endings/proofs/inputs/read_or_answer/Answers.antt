use Rattle.ih_inputs.specs.Reading.{files_of}
use Rattle.ih_endings.proofs.Stopping.{stopped-answer, stopped-cause, stopped-read}
use Rattle.ih_endings.proofs.inputs.read_or_answer.Goals as goal

pub returns-in-Err-clause-unread : goal.returns-in-Err-clause-unread
returns-in-Err-clause-unread g c =
    stopped-answer (g.S.Shelf.names c.args.shelf.now) (files_of c.args.names.now) c.in-Err.error c.unread_inputs.result c.in-Err.ensures.unread
    c.unread_inputs.ensures

pub returns-in-Err-clause-cause : goal.returns-in-Err-clause-cause
returns-in-Err-clause-cause g c =
    stopped-cause g.S.Shelf (files_of c.args.names.now) _ _ c.in-Err.error c.unread_inputs.result c.in-Err.ensures.cause c.unread_inputs.ensures

pub returns-in-Err-clause-failed : goal.returns-in-Err-clause-failed
returns-in-Err-clause-failed g c =
    stopped-read g.S.Shelf (files_of c.args.names.now) _ _ c.in-Err.error c.unread_inputs.result c.in-Err.ensures.cause c.unread_inputs.ensures
