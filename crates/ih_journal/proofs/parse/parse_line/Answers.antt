use Rattle.ih_journal.proofs.InRange.{limits}
use Rattle.ih_journal.proofs.LineTexts.{only_line}
use Rattle.ih_journal.proofs.parse.parse_line.Goals as goal

pub returns-clause-only : goal.returns-clause-only
returns-clause-only c =
    only_line c.args.inst.now.draft c.args.options.now c.args.bytes.now c.entry.result (limits c.args.inst.now.draft c.args.inst.now.valid) c.entry.ensures.ok
    c.entry.ensures.err
