use Rattle.ih_journal.proofs.LineReading.{one_more}
use Rattle.ih_journal.proofs.parse.Line.end.Goals as goal

pub returns-else-next-self-clause-err : goal.returns-else-next-self-clause-err
returns-else-next-self-clause-err c =
    one_more c.args.self.now.inst.now.draft c.args.self.now.options.now c.args.self.now.bytes.now c.args.next.index c.args.next.at c.requires.read c.requires.all
    c.if-next-self.false
