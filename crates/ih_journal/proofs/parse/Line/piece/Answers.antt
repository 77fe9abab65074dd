use Rattle.std.proofs.Common.{subst}
use Rattle.ih_journal.specs.Grammar.{IsField}
use Rattle.ih_journal.proofs.LineReading.{reads_on, wrong_here}
use Rattle.ih_journal.proofs.parse.Line.piece.Goals as goal

pub returns-in-Some-clause-ok : goal.returns-in-Some-clause-ok
returns-in-Some-clause-ok g c =
    let some = c.in-Some.ensures.some in
    reads_on c.args.self.now.inst.now.draft c.args.self.now.options.now c.args.self.now.bytes.now c.args.next.index c.args.next.at
    c.in_ok-field.after.index c.in_ok-field.after.at g.T.Piece.kind c.in_ok-field.field.now (g.T.Piece.text c.in-Some.value) c.requires.read c.requires.wanted
    c.in_ok-field.ensures.index c.in_ok-field.ensures.ok some.1 (subst (IsField c.args.self.now.inst.now.draft g.T.Piece.kind) some.1 some.2)

pub returns-in-None-clause-err : goal.returns-in-None-clause-err
returns-in-None-clause-err g c =
    wrong_here c.args.self.now.inst.now.draft c.args.self.now.options.now c.args.self.now.bytes.now c.args.next.index c.args.next.at
    c.in_ok-field.after.at g.T.Piece.kind c.in_ok-field.field.now c.requires.read c.requires.wanted c.in_ok-field.ensures.ok c.in-None.ensures.none
