use Rattle.std.proofs.Common.{◌≡◌, ◌≤◌, ◌-◌}
use Rattle.ih_turn.specs.Seats.{history, number_of, turns_left}
use Rattle.ih_desk.specs.Desks.{base_of, IsSeatAt}
use Rattle.ih_desk.specs.Finishing.{AreDrawn}
use Rattle.ih_desk.specs.WorkerLoops.{HasCaughtUp, IsNext, credit}
use Rattle.ih_desk.proofs.worker_loop.WorkerLoop.make_attempt.Given as goal

-- the move was tried so often, and each time it was stale
abbrev pub invariant-loop-tried : goal.invariant-loop-tried
invariant-loop-tried g l = record {
  own : IsSeatAt l.desk l.next;
  number : number_of l.next ≡ number_of l.fn.seat;
  caught_up : HasCaughtUp (base_of l.desk) l.fn.self.moves_each (number_of l.fn.seat) (history l.next) l.self;
  try : IsNext (base_of l.desk).options (history l.next) (number_of l.fn.seat) l.attempt_no l.again;
  drawn : AreDrawn (base_of l.desk) l.fn.self.moves_each (number_of l.fn.seat) (history l.next);
  turns : credit (turns_left l.fn.seat) l.fn.self ≤ credit (turns_left l.next) l.self;
  stream : l.self.stream ≡ l.fn.self.stream;
  few : l.again ≤ (base_of l.desk).options.retries;
}

abbrev pub decreases-loop-tried : goal.decreases-loop-tried
decreases-loop-tried g l = (base_of l.desk).options.retries - l.again
