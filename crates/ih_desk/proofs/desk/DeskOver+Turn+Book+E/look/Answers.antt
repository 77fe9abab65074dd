use Rattle.ih_turn.specs.Seats.{value_of}
use Rattle.ih_desk.proofs.Makers.{looked}
use Rattle.ih_desk.proofs.desk.DeskOver+Turn+Book+E.look.Goals as goal

pub returns-clause-looked : goal.returns-clause-looked
returns-clause-looked g c =
    looked c.args.self.now c.args.seat c.give.result c.requires.may.own _ _ _ _ c.take-held.ensures.seat c.give.ensures.own c.give.ensures.seat
    (value_of c.take-held.result) c.take-held.ensures.base c.give.ensures.list _ c.get.ensures c.copy.ensures.legal
    _ c.take-held.ensures.list c.give.ensures.made c.take-held.ensures.begins
