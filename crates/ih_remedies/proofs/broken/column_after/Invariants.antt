use Rattle.std.proofs.Common.{◌≡◌, ◌≤◌, ◌+◌, take}
use Rattle.std.specs.Prelude.{fold}
use Rattle.ih_remedies.specs.Broken.{next_column}
use Rattle.ih_remedies.proofs.broken.column_after.Given as goal

abbrev pub invariant-loop-b : goal.invariant-loop-b
invariant-loop-b l =
    record { far : l.column ≤ l.b-index + 1; same : l.column ≡ fold next_column 1 (take l.b-index l.front) }
