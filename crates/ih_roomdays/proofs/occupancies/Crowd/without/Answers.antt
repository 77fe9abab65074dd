use Rattle.std.proofs.Common.{ap}
use Rattle.ih_roomdays.proofs.Tallies.{occupancy-less}
use Rattle.ih_roomdays.proofs.occupancies.Crowd.without.Goals as goal

pub returns : goal.returns
returns c = λ p xs x who is once there.
    rw c.square.ensures (occupancy-less p xs x once there c.args.who.age (ap (λ w. w.age) who) c.requires.age c.args.who.gender c.args.self (ap (λ w. w.gender) who) is)
