use Rattle.std.proofs.Common.{◌≡◌, ◌+◌, ◌*◌, ◌≤◌, ◌++◌, take, map}
use Rattle.std.specs.Fmt.{signed_decimal}
use Rattle.ih_journal.specs.Pieces.{marked}
use Rattle.ih_journal.proofs.texts.put_each.Given as goal

abbrev pub invariant-loop-x : goal.invariant-loop-x
invariant-loop-x l = record {
  within : l.end ≤ l.at + 22 * l.x-index;
  text : take l.end l.buffer ≡ take l.at l.fn.buffer ++ marked 44 (map signed_decimal (take l.x-index l.numbers));
}
