use Rattle.std.proofs.Common.{length}
use Rattle.ih_optimizer.proofs.improving.+first_unknown.Given as goal

abbrev pub decreases-first_unknown : goal.decreases-first_unknown
decreases-first_unknown l = length l.ids.now
