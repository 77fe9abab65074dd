use Rattle.std.proofs.Common.{ap}
use Rattle.ih_roomdays.proofs.Tallies.{occupancy-more}
use Rattle.ih_roomdays.proofs.occupancies.Occupancy.with.Goals as goal

pub returns : goal.returns
returns c = λ p xs x who is.
    rw c.square.ensures (occupancy-more p xs x c.args.who.age (ap (λ w. w.age) who) c.requires.age c.args.who.gender c.args.self (ap (λ w. w.gender) who) is)
