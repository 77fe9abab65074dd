use Rattle.ih_turn.specs.Seats.{history}
use Rattle.ih_desk.specs.Desks.{base_of}
use Rattle.ih_search_tests.proofs.NewReplicas.{new-in}
use Rattle.ih_search_tests.proofs.tests.desk.act.Goals as goal

pub step_all-requires-clause-seat : goal.step_all-requires-clause-seat
step_all-requires-clause-seat g c = record {
  own = c.requires.own;
  replica = new-in _ (base_of c.args.desk.now) (history c.args.seat) c.in-Ok.replica c.requires.base c.in-Ok.ensures.replica;
}
