use Rattle.std.proofs.Common.{length}
use Rattle.ih_costs.proofs.series.+play_in_row_noting.Given as goal

-- the moves that are left
abbrev pub decreases-play_in_row_noting : goal.decreases-play_in_row_noting
decreases-play_in_row_noting l = length l.moves.now
