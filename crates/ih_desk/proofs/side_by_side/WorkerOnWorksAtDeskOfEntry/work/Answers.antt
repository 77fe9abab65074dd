use Rattle.std.proofs.Common.{◌≡◌, ◌∙◌, ap, refl, sym, subst}
use Rattle.ih_turn.specs.Seats.{history, number_of}
use Rattle.ih_cellbook.specs.Laws.{HasNoneBy}
use Rattle.ih_desk.specs.Desks.{DeskSeat, base_of}
use Rattle.ih_desk.proofs.Makers.{none-made}
use Rattle.ih_desk.specs.Finishing.{HasFinished}
use Rattle.ih_desk.proofs.side_by_side.WorkerOnWorksAtDeskOfEntry.work.Goals as goal

pub run-seat-requires-clause-none : goal.run-seat-requires-clause-none
run-seat-requires-clause-none g c =
    let same : c.in-Some.seat ≡ c.requires.seat = cc (c.in-Some.ensures.value, c.requires.new.seat) in
    subst (λ (s : DeskSeat). HasNoneBy (number_of s) (history s)) (sym same) (none-made c.args.shared.now c.requires.seat c.requires.own c.requires.made)

pub returns : goal.returns
returns g c =
    let same : c.in-Some.seat ≡ c.requires.seat = cc (c.in-Some.ensures.value, c.requires.new.seat) in
    let b = base_of c.args.shared.now in
    let after = c.run-seat.ensures in
    record {
      first = c.requires.seat;
      last = c.run-seat.result;
      held = c.requires.new.seat;
      holds = refl;
      own = after.own;
      number = after.number ∙ ap (λ (s : DeskSeat). number_of s) same;
      finished = subst (λ w. HasFinished b c.args.self.now.worker_loop.moves_each w (history c.run-seat.result)) (sym after.number) after.finished;
    }
