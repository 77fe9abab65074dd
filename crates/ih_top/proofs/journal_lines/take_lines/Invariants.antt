use Rattle.std.proofs.Common.{◌≡◌, ◌++◌, length}
use Rattle.ih_top.specs.Below.Searches.{AreLegal, lines_from, tries}
use Rattle.ih_top.proofs.journal_lines.take_lines.Given as goal

abbrev pub invariant-loop-line : goal.invariant-loop-line
invariant-loop-line l = record {
  base : l.replay.base ≡ l.fn.replay.base;
  legal : AreLegal l.replay.base 1 (tries l.replay.entries);
  joins : l.bytes ≡ lines_from l.replay.base.options 0 l.replay.entries ++ l.rest;
}

abbrev pub decreases-loop-line : goal.decreases-loop-line
decreases-loop-line l = length l.rest
