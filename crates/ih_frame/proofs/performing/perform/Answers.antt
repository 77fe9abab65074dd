use Rattle.ih_endings.specs.Answers.{HasShelfCause}
use Rattle.ih_endings.specs.Ends.{Received}
use Rattle.ih_endings.specs.Texts.{ReceivedPart}
use Rattle.ih_endings.proofs.Saying.{ended}
use Rattle.ih_frame.specs.Ends.{CommandEnds}
use Rattle.ih_frame.proofs.CommandEnds.{command-answerable}
use Rattle.ih_frame.proofs.performing.perform.Goals as goal

pub returns-clause-ends : goal.returns-clause-ends
returns-clause-ends g c =
    let a = c.answer_of-answer in
    let old = g.S.Shelf.names c.args.shelf.now in
    let new = g.S.Shelf.names a.new.shelf in
    let r = g.C.Command.files c.args.command.now in
    let comes = g.C.Command.comes_to c.args.command.now in
    ended (CommandEnds comes r old new) (command-answerable comes r old new) (HasShelfCause g.S.Shelf c.args.shelf.now a.new.shelf)
    (Received c.conclude.result (g.O.Sink.text c.args.out.now) (g.O.Sink.text c.conclude.new.out) (g.O.Sink.faults c.args.out.now) (g.O.Sink.faults c.conclude.new.out))
    (ReceivedPart (g.O.Sink.text c.args.out.now) (g.O.Sink.text c.conclude.new.out) (g.O.Sink.lacks c.args.out.now) (g.O.Sink.lacks c.conclude.new.out))
    a.result c.conclude.result a.ensures.ends a.ensures.cause c.conclude.ensures.said
