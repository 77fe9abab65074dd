use Rattle.std.proofs.Common.{◌≡◌, ◌++◌}
use Rattle.std.specs.Prelude.{All}
use Rattle.ih_plan.specs.Sums.{which_below}
use Rattle.ih_fill.specs.Choices.{IsChoiceOf, stay_choices}
use Rattle.ih_fill.specs.Fill.{is_waiting}
use Rattle.ih_fill.proofs.choices.push_waiting.Given as goal

abbrev pub invariant-loop-p : goal.invariant-loop-p
invariant-loop-p l = record {
  more : l.choices.items ≡ l.fn.choices.items ++ stay_choices (which_below l.p (is_waiting l.inst.draft l.plan l.mandatory));
  inside : All (IsChoiceOf l.inst.draft) l.choices.items;
}
