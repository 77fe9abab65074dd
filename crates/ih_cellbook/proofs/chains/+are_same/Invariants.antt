use Rattle.std.proofs.Common.{length}
use Rattle.ih_cellbook.proofs.chains.+are_same.Given as goal

-- the moves that are left
abbrev pub decreases-are_same : goal.decreases-are_same
decreases-are_same l = length l.left.now
