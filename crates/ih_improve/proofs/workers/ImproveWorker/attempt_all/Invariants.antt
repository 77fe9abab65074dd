use Rattle.std.proofs.Common.{◌≤◌, ◌^◌}
use Rattle.ih_improve.specs.WalkerState.{IsUnderway}
use Rattle.ih_improve.proofs.workers.ImproveWorker.attempt_all.Given as goal

abbrev pub invariant-loop-attempt_no : goal.invariant-loop-attempt_no
invariant-loop-attempt_no l = record { underway : IsUnderway l.leg l.self.walker; heat : l.heat ≤ 2 ^ 37 }
