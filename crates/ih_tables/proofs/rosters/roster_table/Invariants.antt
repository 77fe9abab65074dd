use Rattle.std.proofs.Common.{◌≡◌}
use Rattle.std.specs.Prelude.{map}
use Rattle.std.specs.List.{range_with_len}
use Rattle.ih_tables.specs.Works.{working}
use Rattle.ih_tables.proofs.rosters.roster_table.Given as goal

abbrev pub invariant-loop-shift : goal.invariant-loop-shift
invariant-loop-shift l = l.rosters.items ≡ map (working l.draft) (range_with_len 0 l.shift)
