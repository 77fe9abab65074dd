use Rattle.std.proofs.Common.{subst}
use Rattle.ih_top.specs.Below.Endings.{Answers, EndsUnread, HasGiven, InputFiles, MadeEnds, given_of}
use Rattle.ih_frame.proofs.CommandEnds.{performed-ends, unread-ends}
use Rattle.ih_top.specs.Methods.{comes_to, gated_inputs}
use Rattle.ih_top.proofs.gated.answer_of.Goals as goal

pub returns-in-Ok-clause-ends : goal.returns-in-Ok-clause-ends
returns-in-Ok-clause-ends g c =
    let old = g.S.Shelf.names c.args.shelf.now in
    let new = g.S.Shelf.names c.carry_out.new.shelf in
    let r = gated_inputs c.args.call in
    let read = subst (λ (f : InputFiles). HasGiven old f (given_of c.in-Ok.inputs)) c.names_of.ensures c.in-Ok.ensures.read in
    let left = subst (λ files. Answers (MadeEnds c.outcome_by-made.result files new) c.carry_out.result) c.in-Ok.ensures.only.kept c.carry_out.ensures.ends in
    performed-ends (comes_to c.args.call) r old new (given_of c.in-Ok.inputs) read c.outcome_by-made.result c.outcome_by-made.ensures.comes c.carry_out.result left

pub returns-in-Err-clause-ends : goal.returns-in-Err-clause-ends
returns-in-Err-clause-ends g c =
    let old = g.S.Shelf.names c.args.shelf.now in
    let new = g.S.Shelf.names c.read_or_answer.new.shelf in
    let unread = subst (λ (f : InputFiles). Answers (EndsUnread old f) c.in-Err.answer) c.names_of.ensures c.in-Err.ensures.unread in
    unread-ends (comes_to c.args.call) (gated_inputs c.args.call) old new c.in-Err.ensures.only.kept c.in-Err.answer unread
