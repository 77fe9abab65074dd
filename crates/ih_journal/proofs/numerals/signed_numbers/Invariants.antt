use Rattle.std.proofs.Common.{◌≡◌, ◌++◌, take, map, All}
use Rattle.std.specs.Fmt.{signed_decimal}
use Rattle.ih_journal.specs.Grammar.{parted}
use Rattle.ih_journal.specs.Pieces.{IsSmall}
use Rattle.ih_journal.proofs.numerals.signed_numbers.Given as goal

abbrev pub invariant-loop-i : goal.invariant-loop-i
invariant-loop-i l = record {
  texts : parted 44 l.fn.bytes ≡ map signed_decimal (take l.i l.out) ++ parted 44 l.left;
  small : All IsSmall (take l.i l.out);
}
