use Rattle.std.proofs.Common.{◌≡◌, ◌/◌, ◌%◌}
use Rattle.std.specs.Prelude.{map}
use Rattle.std.specs.List.{range_with_len}
use Rattle.ih_tables.specs.Sizes.{shift_count}
use Rattle.ih_tables.specs.Works.{max_load}
use Rattle.ih_tables.proofs.loads.load_table.Given as goal

abbrev pub invariant-loop-index : goal.invariant-loop-index
invariant-loop-index l = l.loads.items ≡ map (λ j. max_load l.draft (j / shift_count l.draft) (j % shift_count l.draft)) (range_with_len 0 l.index)
