use Rattle.std.proofs.Common.{◌≡◌, ◌<◌, ◌≤◌, ◌-◌, length}
use Rattle.ih_turn.specs.Seats.{history, number_of, turns_left}
use Rattle.ih_cellbook.specs.Offers.{HasSeenOwn}
use Rattle.ih_desk.specs.Desks.{base_of, IsSeatAt}
use Rattle.ih_turn.specs.Rule.{GoesOn}
use Rattle.ih_desk.specs.WorkerLoops.{IsWithin, credit}
use Rattle.ih_desk.proofs.worker_loop.WorkerLoop.catch_up.Given as goal

-- what the worker made comes before the goal, and each turn showed more
abbrev pub invariant-loop-self : goal.invariant-loop-self
invariant-loop-self g l = record {
  own : IsSeatAt l.desk l.next;
  number : number_of l.next ≡ number_of l.fn.seat;
  within : IsWithin (base_of l.desk) l.fn.self.moves_each (number_of l.fn.seat) (history l.next) l.self;
  goes : GoesOn (λ e. e.worker) (number_of l.fn.seat) (history l.fn.seat) (history l.next);
  seen : HasSeenOwn (history l.next) (number_of l.fn.seat) l.goal;
  reached : l.goal ≤ length (history l.next);
  turns : credit (turns_left l.fn.seat) l.fn.self < credit (turns_left l.next) l.self;
  stream : l.self.stream ≡ l.fn.self.stream;
}

abbrev pub decreases-loop-self : goal.decreases-loop-self
decreases-loop-self g l = l.goal - l.self.replica.seen
