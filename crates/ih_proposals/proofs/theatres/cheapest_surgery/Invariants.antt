use Rattle.std.proofs.Common.{◌<◌}
use Rattle.ih_tables.specs.Sizes.{theatre_count}
use Rattle.ih_proposals.proofs.theatres.cheapest_surgery.Given as goal

abbrev pub invariant-loop-i : goal.invariant-loop-i
invariant-loop-i l = l.best < theatre_count l.here.inst.now.draft
