use Rattle.ih_desk.specs.Desks.{IsSeatAt}
use Rattle.ih_fixtures.proofs.TwoItems.{both_have, both_numbers}
use Rattle.ih_search_tests.proofs.tests.desk.closes_with_three.Goals as goal

pub close-requires-clause-own : goal.close-requires-clause-own
close-requires-clause-own c = both_have c.args.zero c.args.one _ c.in-Some.ensures (IsSeatAt c.args.desk) c.requires.own.1 c.requires.own.2

pub close-requires-clause-all : goal.close-requires-clause-all
close-requires-clause-all c =
    both_numbers c.args.zero c.args.one _ c.in-Some.ensures (λ s. s.number) c.requires.numbers.0 c.requires.numbers.1 _ c.requires.own.0
