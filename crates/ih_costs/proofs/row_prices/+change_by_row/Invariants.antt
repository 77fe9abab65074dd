use Rattle.std.proofs.Common.{◌+◌, ◌*◌, length}
use Rattle.ih_costs.proofs.row_prices.+change_by_row.Given as goal

-- the writes that are left, and room for those of the moves that are left
abbrev pub decreases-change_by_row : goal.decreases-change_by_row
decreases-change_by_row l = 22 * length l.moves.now + length l.before.now
