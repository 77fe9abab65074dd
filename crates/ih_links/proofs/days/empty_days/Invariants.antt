use Rattle.std.proofs.Common.{◌≡◌, replicate}
use Rattle.ih_links.specs.Days.{empty_lists}
use Rattle.ih_links.proofs.days.empty_days.Given as goal

-- so many days are there, with nothing in any list
abbrev pub invariant-loop : goal.invariant-loop
invariant-loop l = l.all.items ≡ replicate l.counter (empty_lists l.fn.heads l.fn.nodes)
