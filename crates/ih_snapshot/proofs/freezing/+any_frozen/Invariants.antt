use Rattle.std.proofs.Common.{length}
use Rattle.ih_snapshot.proofs.freezing.+any_frozen.Given as goal

-- the writes that are left
abbrev pub decreases-any_frozen : goal.decreases-any_frozen
decreases-any_frozen l = length l.writes.now
