use Rattle.std.specs.Prelude.{vec_len}
use Rattle.ih_desk.proofs.whole_search.+take_seats.Given as goal

abbrev pub decreases-take_seats : goal.decreases-take_seats
decreases-take_seats g l = vec_len l.workers.now
