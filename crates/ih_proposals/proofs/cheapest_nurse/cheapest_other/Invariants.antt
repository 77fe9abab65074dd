use Rattle.std.proofs.Common.{◌<◌}
use Rattle.ih_tables.specs.Sizes.{nurse_count}
use Rattle.ih_proposals.proofs.cheapest_nurse.cheapest_other.Given as goal

abbrev pub invariant-loop-i : goal.invariant-loop-i
invariant-loop-i l = l.best.0 < nurse_count l.here.inst.now.draft
