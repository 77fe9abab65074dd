use Rattle.std.proofs.Common.{◌≡◌, map, take}
use Rattle.ih_values.specs.Objects.{elements}
use Rattle.ih_values.proofs.values.list_value.Given as goal

abbrev pub invariant-loop-item : goal.invariant-loop-item
invariant-loop-item g l = elements l.values ≡ map g.T.Shown.json (take l.item-index l.items)
