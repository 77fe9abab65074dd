use Rattle.std.proofs.Common.{◌≡◌, ◌≤◌, ◌+◌, take}
use Rattle.std.specs.Prelude.{fold}
use Rattle.ih_remedies.specs.Broken.{next_line}
use Rattle.ih_remedies.proofs.broken.line_after.Given as goal

abbrev pub invariant-loop-b : goal.invariant-loop-b
invariant-loop-b l = record { far : l.line ≤ l.b-index + 1; same : l.line ≡ fold next_line 1 (take l.b-index l.front) }
