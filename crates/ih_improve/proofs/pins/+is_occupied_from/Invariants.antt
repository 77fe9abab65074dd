use Rattle.ih_improve.proofs.pins.+is_occupied_from.Given as goal

abbrev pub decreases-is_occupied_from : goal.decreases-is_occupied_from
decreases-is_occupied_from l = l.len
