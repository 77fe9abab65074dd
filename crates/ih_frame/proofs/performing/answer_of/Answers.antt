use Rattle.std.proofs.Common.{subst}
use Rattle.ih_inputs.specs.Reading.{HasGiven, InputFiles, given_of}
use Rattle.ih_endings.specs.Answers.{Answers}
use Rattle.ih_endings.specs.Inputs.{EndsUnread}
use Rattle.ih_frame.specs.Ends.{MadeEnds}
use Rattle.ih_frame.proofs.CommandEnds.{performed-ends, unread-ends}
use Rattle.ih_frame.proofs.performing.answer_of.Goals as goal

pub returns-in-Ok-clause-ends : goal.returns-in-Ok-clause-ends
returns-in-Ok-clause-ends g c =
    let old = g.S.Shelf.names c.args.shelf.now in
    let new = g.S.Shelf.names c.carry_out.new.shelf in
    let r = g.C.Command.files c.args.command.now in
    let comes = g.C.Command.comes_to c.args.command.now in
    let read = subst (λ (f : InputFiles). HasGiven old f (given_of c.in-Ok.inputs)) c.names.ensures c.in-Ok.ensures.read in
    let left = subst (λ files. Answers (MadeEnds c.outcome-made.result files new) c.carry_out.result) c.in-Ok.ensures.only.kept c.carry_out.ensures.ends in
    performed-ends comes r old new (given_of c.in-Ok.inputs) read c.outcome-made.result c.outcome-made.ensures.comes c.carry_out.result left

pub returns-in-Err-clause-ends : goal.returns-in-Err-clause-ends
returns-in-Err-clause-ends g c =
    let old = g.S.Shelf.names c.args.shelf.now in
    let new = g.S.Shelf.names c.read_or_answer.new.shelf in
    let r = g.C.Command.files c.args.command.now in
    let comes = g.C.Command.comes_to c.args.command.now in
    let unread = subst (λ (f : InputFiles). Answers (EndsUnread old f) c.in-Err.answer) c.names.ensures c.in-Err.ensures.unread in
    unread-ends comes r old new c.in-Err.ensures.only.kept c.in-Err.answer unread
