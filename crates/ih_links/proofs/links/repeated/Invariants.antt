use Rattle.std.proofs.Common.{◌≡◌, map, replicate}
use Rattle.ih_links.proofs.links.repeated.Given as goal

-- so many are there
abbrev pub invariant-loop : goal.invariant-loop
invariant-loop g l = map g.W.Width.number l.all.items ≡ replicate l.counter l.first
