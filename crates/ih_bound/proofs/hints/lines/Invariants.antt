use Rattle.std.proofs.Common.{◌≡◌, take}
use Rattle.std.specs.Prelude.{flat_map}
use Rattle.ih_bound.specs.Hints.{hint_line}
use Rattle.ih_bound.proofs.hints.lines.Given as goal

abbrev pub invariant-loop-place : goal.invariant-loop-place
invariant-loop-place l = l.out.items ≡ flat_map (hint_line l.inst.draft l.points) (take l.place-index l.places)
