use Rattle.ih_optimizer.specs.Rounds.{changes_line}
use Rattle.ih_optimizer.proofs.rounds.changes_line.Goals as goal

pub returns : goal.returns
unfolding changes_line
returns c = rw (c.format-all.ensures.text, c.format-patients.ensures.text, c.format-nurses.ensures.text) at c.format.ensures.ok
