use Rattle.std.proofs.Common.{◌≡◌, ◌≤◌, take}
use Rattle.ih_improve.specs.Defaults.{count_up_to}
use Rattle.ih_improve.proofs.defaults.count_up_to.Given as goal

abbrev pub invariant-loop-w : goal.invariant-loop-w
invariant-loop-w l = record { count : l.count ≡ count_up_to (take l.w-index l.weights) l.most; few : l.count ≤ l.w-index }
