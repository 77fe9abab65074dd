use Rattle.std.proofs.Common.{◌≡◌, ◌++◌}
use Rattle.std.specs.Prelude.{All}
use Rattle.ih_fill.specs.Choices.{IsChoiceOf, nurses_in}
use Rattle.ih_fill.proofs.choices.push_nurses_in.Given as goal

abbrev pub invariant-loop-r : goal.invariant-loop-r
invariant-loop-r l = record {
  more : l.choices.items ≡ l.fn.choices.items ++ nurses_in l.shift.0 l.r;
  inside : All (IsChoiceOf l.inst.draft) l.choices.items;
}
