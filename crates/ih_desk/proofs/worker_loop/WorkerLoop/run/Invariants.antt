use Rattle.std.proofs.Common.{◌≡◌, ◌*◌, ◌<◌}
use Rattle.ih_plan.specs.Draws.{stream_at}
use Rattle.ih_journal.specs.Attempts.{HasMade}
use Rattle.ih_journal.specs.Settings.{most_entries}
use Rattle.ih_turn.specs.Seats.{history, number_of, turns_left}
use Rattle.ih_desk.specs.Desks.{base_of, IsSeatAt}
use Rattle.ih_desk.specs.Finishing.{AreDrawn}
use Rattle.ih_desk.specs.WorkerLoops.{HasCaughtUp, credit}
use Rattle.ih_desk.proofs.worker_loop.WorkerLoop.run.Given as goal

-- the draws so far were made, and turns are left for those to come
abbrev pub invariant-loop-attempt_no : goal.invariant-loop-attempt_no
invariant-loop-attempt_no g l = record {
  own : IsSeatAt l.desk l.next;
  same : number_of l.next ≡ number_of l.fn.seat;
  caught_up : HasCaughtUp (base_of l.desk) l.fn.self.moves_each (number_of l.fn.seat) (history l.next) l.self;
  made : HasMade (base_of l.desk).options (history l.next) (number_of l.fn.seat) l.attempt_no;
  drawn : AreDrawn (base_of l.desk) l.fn.self.moves_each (number_of l.fn.seat) (history l.next);
  stream : l.self.stream ≡ stream_at (base_of l.desk).options.seed (number_of l.fn.seat) (l.attempt_no * l.fn.self.moves_each);
  turns : most_entries (base_of l.desk).options < credit (turns_left l.next) l.self;
}
