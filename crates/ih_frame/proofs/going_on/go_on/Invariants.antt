use Rattle.std.proofs.Common.{◌≡◌, ◌≤◌, ◌+◌}
use Rattle.ih_shelf.specs.Outside.{IfTold}
use Rattle.ih_frame.specs.Steps.{ArePutsAtMost}
use Rattle.ih_frame.proofs.StepByStep.{Underway}
use Rattle.ih_frame.proofs.going_on.go_on.Given as goal

-- so many steps are taken
abbrev pub invariant-loop : goal.invariant-loop
invariant-loop g l = record {
  underway : Underway (g.P.Steps.steps_to (g.P.Steps.task l.fn.steps)) (g.P.Steps.state l.fn.steps) (g.P.Steps.state l.steps) l.counter
      (g.S.Shelf.names l.fn.shelf) (g.S.Shelf.names l.shelf) (g.O.Sink.text l.fn.out) (g.O.Sink.text l.out);
  same : g.P.Steps.task l.steps ≡ g.P.Steps.task l.fn.steps;
  lawful : g.P.Steps.is_lawful l.steps;
  left : l.counter + g.P.Steps.left l.steps ≤ l.count;
  few : IfTold (ArePutsAtMost l.counter) (g.O.Sink.puts l.fn.out) (g.O.Sink.puts l.out);
  read_faults : g.S.Shelf.read_faults l.fn.shelf ≤ g.S.Shelf.read_faults l.shelf;
  write_faults : g.S.Shelf.write_faults l.fn.shelf ≤ g.S.Shelf.write_faults l.shelf;
  put_faults : g.O.Sink.faults l.fn.out ≤ g.O.Sink.faults l.out;
  lacks : g.O.Sink.lacks l.fn.out ≤ g.O.Sink.lacks l.out;
}
