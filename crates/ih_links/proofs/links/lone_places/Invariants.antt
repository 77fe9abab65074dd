use Rattle.std.proofs.Common.{◌≡◌, map}
use Rattle.std.specs.List.{range_with_len}
use Rattle.ih_links.proofs.links.lone_places.Given as goal

-- each place so far is a ring of its own
abbrev pub invariant-loop-place : goal.invariant-loop-place
invariant-loop-place g l = map g.W.Width.number l.places.items ≡ range_with_len 0 l.place
