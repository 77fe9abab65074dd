use Rattle.std.proofs.Common.{◌≤◌, All}
use Rattle.ih_bound.specs.Dealing.{HasFloors}
use Rattle.ih_bound.proofs.ascending.ascend_by.Given as goal

abbrev pub invariant-loop-round : goal.invariant-loop-round
invariant-loop-round g l = record {
  floors : All (HasFloors l.inst.draft l.rates) l.workers;
  rounds : l.rounds ≤ l.effort.rounds;
}
