use Rattle.std.proofs.Common.{arith, ◌≡◌, ◌-◌, length, take, drop}
use Rattle.std.specs.Option.{option_copied}
use Rattle.std.proofs.lemmas.Grind.{common_steps}
use Rattle.ih_journal.proofs.LineReading.{next_field}
use Rattle.ih_journal.proofs.parse.Line.field.Goals as goal

pub returns-clause-ok : goal.returns-clause-ok
returns-clause-ok c =
    let whole : take (length c.args.self.now.bytes.now - c.args.next.at) (drop c.args.next.at c.args.self.now.bytes.now)
    ≡ drop c.args.next.at c.args.self.now.bytes.now = grind (arith, common_steps) in
    next_field c.args.self.now.bytes.now c.args.next.at c.cut.result.0.now (option_copied c.cut.result.1) c.if-next-self.false (rw whole at c.cut.ensures)
