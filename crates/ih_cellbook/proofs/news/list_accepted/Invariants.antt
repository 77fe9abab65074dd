use Rattle.std.proofs.Common.{◌≡◌, ◌-◌, ◌≤◌, length, map}
use Rattle.std.specs.Prelude.{vec_capacity}
use Rattle.ih_cellbook.specs.News.{accepted_between, most_told}
use Rattle.ih_cellbook.proofs.news.list_accepted.Given as goal

-- what was accepted up to here is listed
abbrev pub invariant-loop-until : goal.invariant-loop-until
invariant-loop-until g l = record {
  since : l.from ≤ l.until;
  within : l.until ≤ l.front;
  listed : map g.E.Logged.tried l.list.items ≡ accepted_between (map g.E.Logged.tried l.entries) l.from l.until;
  few : length l.list.items ≤ most_told;
  room : vec_capacity l.list ≡ vec_capacity l.fn.list;
}

abbrev pub decreases-loop-until : goal.decreases-loop-until
decreases-loop-until g l = l.front - l.until
