use Rattle.std.proofs.Common.{ap}
use Rattle.ih_roomdays.proofs.Tallies.{twice-more}
use Rattle.ih_roomdays.proofs.occupancies.Crowd.with.Goals as goal

pub returns : goal.returns
returns c = λ p xs x who is. record {
  occupancy = c.with.ensures p xs x who is.occupancy;
  twice = twice-more p xs x c.args.who.age (ap (λ w. w.age) who) c.requires.age c.args.self is;
}
