use Rattle.std.proofs.Common.{length}
use Rattle.ih_costs.proofs.series.+play_in_row.Given as goal

-- the moves that are left
abbrev pub decreases-play_in_row : goal.decreases-play_in_row
decreases-play_in_row l = length l.moves.now
