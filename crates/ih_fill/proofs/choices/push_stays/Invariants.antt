use Rattle.std.proofs.Common.{◌≡◌, ◌++◌}
use Rattle.std.specs.Prelude.{All}
use Rattle.std.specs.List.{range_with_len}
use Rattle.ih_fill.specs.Choices.{IsChoiceOf, stay_choices}
use Rattle.ih_fill.proofs.choices.push_stays.Given as goal

abbrev pub invariant-loop-p : goal.invariant-loop-p
invariant-loop-p l = record {
  more : l.choices.items ≡ l.fn.choices.items ++ stay_choices (range_with_len 0 l.p);
  inside : All (IsChoiceOf l.inst.draft) l.choices.items;
}
