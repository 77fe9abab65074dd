use Rattle.std.proofs.Common.{◌≡◌, take}
use Rattle.std.specs.Prelude.{fold, None}
use Rattle.ih_remedies.specs.Broken.{next_solid}
use Rattle.ih_remedies.proofs.broken.last_solid.Given as goal

abbrev pub invariant-loop-b : goal.invariant-loop-b
invariant-loop-b l = l.last ≡ fold next_solid None (take l.b-index l.front)
