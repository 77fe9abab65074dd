use Rattle.std.proofs.Common.{◌≤◌, arith, length, decimal}
use Rattle.ih_journal.proofs.NumberTexts.{small-text}
use Rattle.ih_journal.proofs.small_numbers.put_small.Goals as goal

pub returns-clause-text : goal.returns-clause-text
returns-clause-text c =
    let few : length (decimal c.args.number) ≤ 3 = rw (← c.digit_count.ensures.count) c.digit_count.ensures.few in
    rw c.digit_count.ensures.count
    (small-text c.args.at c.args.number c.args.buffer.now c.put_three.new.buffer (omega arith) c.requires.small few c.put_three.ensures.text)
