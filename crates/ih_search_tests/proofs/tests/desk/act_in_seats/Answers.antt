use Rattle.ih_turn.specs.Seats.{number_of}
use Rattle.ih_desk.specs.Desks.{IsSeatAt}
use Rattle.ih_fixtures.proofs.TwoItems.{each_has, numbered}
use Rattle.ih_search_tests.proofs.tests.desk.act_in_seats.Goals as goal

pub take_turns-requires-clause-own : goal.take_turns-requires-clause-own
take_turns-requires-clause-own g c =
    let has = each_has c.in-Some.left c.in-Some.right _ c.in-Some.ensures (IsSeatAt c.args.desk) c.requires.own in
    (c.requires.two, has.0, has.1)

pub take_turns-requires-clause-numbers : goal.take_turns-requires-clause-numbers
take_turns-requires-clause-numbers g c = numbered c.in-Some.left c.in-Some.right _ c.in-Some.ensures (λ s. number_of s) c.requires.numbers
