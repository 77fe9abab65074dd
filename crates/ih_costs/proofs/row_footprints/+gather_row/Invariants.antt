use Rattle.std.proofs.Common.{◌+◌, ◌*◌, length}
use Rattle.ih_costs.proofs.row_footprints.+gather_row.Given as goal

-- the writes that are left, and room for those of the moves that are left
abbrev pub decreases-gather_row : goal.decreases-gather_row
decreases-gather_row l = 22 * length l.moves.now + length l.before.now
