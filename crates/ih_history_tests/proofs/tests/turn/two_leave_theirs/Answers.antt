use Rattle.std.proofs.Common.{◌≡◌, arith}
use Rattle.ih_turn.specs.Seats.{IsSeatOf, turns_left}
use Rattle.ih_fixtures.proofs.TwoItems.{each_has}
use Rattle.ih_history_tests.proofs.tests.turn.two_leave_theirs.Goals as goal

pub both_add-requires-clause-own : goal.both_add-requires-clause-own
both_add-requires-clause-own g c κs within =
    let has = each_has c.in-Some.one c.in-Some.two _ c.in-Some.ensures (λ s. IsSeatOf c.args.turn s × (turns_left s ≡ c.args.turns)) c.requires.own in
    (c.requires.two.0, has.0.0, has.1.0)

pub both_add-requires-clause-left : goal.both_add-requires-clause-left
both_add-requires-clause-left g c κs within =
    let has = each_has c.in-Some.one c.in-Some.two _ c.in-Some.ensures (λ s. IsSeatOf c.args.turn s × (turns_left s ≡ c.args.turns)) c.requires.own in
    let one = has.0.1 in
    let two = has.1.1 in
    (omega (arith, one), omega (arith, two))

pub first_adds-requires-clause-own : goal.first_adds-requires-clause-own
first_adds-requires-clause-own g c =
    let has = each_has c.in-Some.one c.in-Some.two _ c.in-Some.ensures (λ s. IsSeatOf c.args.turn s × (turns_left s ≡ c.args.turns)) c.requires.own in
    (c.requires.two.0, has.0.0, has.1.0)
