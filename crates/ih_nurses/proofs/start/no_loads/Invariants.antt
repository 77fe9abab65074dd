use Rattle.std.proofs.Common.{◌≡◌}
use Rattle.std.specs.Prelude.{map}
use Rattle.std.specs.List.{range_with_len}
use Rattle.ih_nurses.specs.Loads.{free_load}
use Rattle.ih_nurses.proofs.start.no_loads.Given as goal

-- the places before this one are made
abbrev pub invariant-loop-index : goal.invariant-loop-index
invariant-loop-index l = l.loads.items ≡ map (free_load l.inst.draft) (range_with_len 0 l.index)
