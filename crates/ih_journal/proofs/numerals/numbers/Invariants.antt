use Rattle.std.proofs.Common.{◌≡◌, ◌++◌, take, map, decimal}
use Rattle.ih_journal.specs.Grammar.{parted}
use Rattle.ih_journal.specs.Names.{AreShort}
use Rattle.ih_journal.proofs.numerals.numbers.Given as goal

abbrev pub invariant-loop-i : goal.invariant-loop-i
invariant-loop-i l = record {
  texts : parted l.separator l.fn.bytes ≡ map decimal (take l.i l.out) ++ parted l.separator l.left;
  short : AreShort (take l.i l.out);
}
