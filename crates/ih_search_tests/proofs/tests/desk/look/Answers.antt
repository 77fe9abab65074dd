use Rattle.ih_turn.specs.Seats.{history, number_of}
use Rattle.ih_desk.specs.Desks.{base_of}
use Rattle.ih_desk.proofs.CatchingUp.{stays}
use Rattle.ih_search_tests.proofs.tests.desk.look.Goals as goal

pub returns-clause-replica : goal.returns-clause-replica
returns-clause-replica g c =
    stays (base_of c.args.desk.now) (number_of c.args.seat) (history c.args.seat) (history c.look.result) c.args.replica.now
    c.look.ensures.looked.goes_on c.requires.replica
