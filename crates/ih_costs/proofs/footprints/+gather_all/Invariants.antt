use Rattle.std.proofs.Common.{length}
use Rattle.ih_costs.proofs.footprints.+gather_all.Given as goal

-- the writes that are left
abbrev pub decreases-gather_all : goal.decreases-gather_all
decreases-gather_all l = length l.writes.now
