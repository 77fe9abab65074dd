use Rattle.std.proofs.Common.{◌≡◌, ◌++◌}
use Rattle.std.specs.Prelude.{All, flat_map}
use Rattle.std.specs.List.{range_with_len}
use Rattle.ih_tables.specs.Sizes.{room_count}
use Rattle.ih_fill.specs.Choices.{IsChoiceOf, nurses_in}
use Rattle.ih_fill.proofs.choices.push_nurses.Given as goal

abbrev pub invariant-loop-k : goal.invariant-loop-k
invariant-loop-k l = record {
  more : l.choices.items ≡ l.fn.choices.items ++ flat_map (λ k. nurses_in k (room_count l.inst.draft)) (range_with_len 0 l.k);
  inside : All (IsChoiceOf l.inst.draft) l.choices.items;
}
