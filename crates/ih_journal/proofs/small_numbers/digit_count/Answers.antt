use Rattle.ih_journal.proofs.NumberTexts.{counted}
use Rattle.ih_journal.proofs.small_numbers.digit_count.Goals as goal

pub returns-clause-count : goal.returns-clause-count
returns-clause-count c = counted c.args.number c.requires
