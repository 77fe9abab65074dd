use Rattle.std.proofs.Common.{All}
use Rattle.ih_bound.specs.Dealing.{HasFloors}
use Rattle.ih_bound.proofs.sharpening.free_all.Given as goal

abbrev pub invariant-loop-tried : goal.invariant-loop-tried
invariant-loop-tried g l = All (HasFloors l.inst.draft l.rates) l.workers
