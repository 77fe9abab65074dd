use Rattle.std.proofs.Common.{◌≡◌, ◌≤◌, take}
use Rattle.ih_improve.specs.Defaults.{count_above}
use Rattle.ih_improve.proofs.defaults.count_above.Given as goal

abbrev pub invariant-loop-w : goal.invariant-loop-w
invariant-loop-w l = record { count : l.count ≡ count_above (take l.w-index l.weights); few : l.count ≤ l.w-index }
