use Rattle.std.proofs.Common.{◌≡◌, ◌+◌, ◌∙◌, arith, take}
use Rattle.ih_journal.specs.declared.small_numbers.TheConstants.{TEXTS}
use Rattle.ih_journal.proofs.NumberTexts.{three-written}
use Rattle.ih_journal.proofs.small_numbers.put_three.Goals as goal

pub returns-clause-text : goal.returns-clause-text
returns-clause-text c =
    let first = c.put_byte-end.ensures.end in
    let second = c.put_byte-end-2.ensures.end in
    let third = c.put_byte.ensures.end in
    let end : c.args.at + 3 ≡ c.put_byte.result = omega (arith, first, second, third) in
    rw end
    (c.put_byte.ensures.text
    ∙ rw (c.put_byte-end-2.ensures.text, c.put_byte-end.ensures.text)
    (three-written (take c.args.at c.args.buffer.now) TEXTS c.args.from c.requires.from))
