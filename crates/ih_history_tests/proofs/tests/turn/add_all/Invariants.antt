use Rattle.std.proofs.Common.{◌≡◌, ◌+◌, ◌≤◌}
use Rattle.ih_turn.specs.Seats.{IsSeatOf}
use Rattle.ih_history_tests.proofs.tests.turn.add_all.Given as goal

abbrev pub invariant-loop-i : goal.invariant-loop-i
invariant-loop-i g l = IsSeatOf l.turn l.seat × (l.seat.number ≡ l.fn.seat.number) × (l.count ≤ l.seat.left + l.i)
