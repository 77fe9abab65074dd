use Rattle.std.proofs.Common.{◌∙◌, take}
use Rattle.ih_journal.proofs.LinePieces.{named-pieces}
use Rattle.ih_journal.proofs.texts.put_named.Goals as goal

pub returns-clause-text : goal.returns-clause-text
returns-clause-text c =
    c.put_marked.ensures.text
    ∙ rw (c.put_number-end.ensures.text, c.from.ensures, c.put_byte-end.ensures.text, c.put_text-end.ensures.text)
    (named-pieces (take c.args.at c.args.buffer.now) c.args.name.now c.args.first c.args.rest.now)
