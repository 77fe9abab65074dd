use Rattle.std.proofs.Common.{◌≡◌, drop}
use Rattle.ih_shelf.specs.Faults.{kept_by}
use Rattle.ih_shelf.proofs.faults.find.Given as goal

abbrev pub invariant-loop-call : goal.invariant-loop-call
invariant-loop-call l = kept_by l.plan l.number ≡ kept_by (drop l.call-index l.plan) l.number
