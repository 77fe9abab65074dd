use Rattle.std.proofs.Common.{◌≡◌}
use Rattle.std.specs.Prelude.{filter}
use Rattle.ih_tables.specs.Works.{first_nurses, is_working}
use Rattle.ih_tables.proofs.rosters.working.Given as goal

abbrev pub invariant-loop-n : goal.invariant-loop-n
invariant-loop-n l = l.nurses.items ≡ filter (is_working l.draft l.shift) (first_nurses l.n)
