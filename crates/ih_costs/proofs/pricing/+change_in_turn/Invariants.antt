use Rattle.std.proofs.Common.{length}
use Rattle.ih_costs.proofs.pricing.+change_in_turn.Given as goal

abbrev pub decreases-change_in_turn : goal.decreases-change_in_turn
decreases-change_in_turn l = length l.rest.now
