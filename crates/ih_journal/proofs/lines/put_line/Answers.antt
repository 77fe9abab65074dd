use Rattle.std.proofs.Common.{sym}
use Rattle.ih_journal.proofs.LinePieces.{line-pieces}
use Rattle.ih_journal.proofs.lines.put_line.Goals as goal

pub returns-clause-text : goal.returns-clause-text
returns-clause-text c =
    rw (
      c.put_byte.ensures.text,
      c.put_verdict-end.ensures.text,
      c.put_byte-end-3.ensures.text,
      c.put_price-end.ensures.text,
      c.put_byte-end-2.ensures.text,
      c.put_move-end.ensures.text,
      c.put_byte-end.ensures.text,
      c.put_field-end-3.ensures.text,
      c.put_again-end.ensures.text,
      c.put_field-end-2.ensures.text,
      c.put_field-end.ensures.text,
      c.put_number-end.ensures.text,
      c.from.ensures,
    )
    (sym (line-pieces c.args.options.now c.args.place c.args.entry.now))
