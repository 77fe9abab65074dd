use Rattle.std.proofs.Common.{length}
use Rattle.ih_improve.proofs.keeping.+any_kept.Given as goal

abbrev pub decreases-any_kept : goal.decreases-any_kept
decreases-any_kept l = length l.moves.now
