use Rattle.ih_turn.specs.Seats.{IsSeatOf}
use Rattle.ih_fixtures.proofs.TwoItems.{both_have, both_numbers}
use Rattle.ih_history_tests.proofs.tests.turn.closes_with.Goals as goal

pub close-requires-clause-own : goal.close-requires-clause-own
close-requires-clause-own c = both_have c.args.one c.args.two _ c.in-Some.ensures (IsSeatOf c.args.turn) c.requires.own.1 c.requires.own.2

pub close-requires-clause-all : goal.close-requires-clause-all
close-requires-clause-all c =
    both_numbers c.args.one c.args.two _ c.in-Some.ensures (λ s. s.number) c.requires.numbers.0 c.requires.numbers.1 _ c.requires.own.0
