use Rattle.std.proofs.Common.{◌≡◌, ◌+◌, ◌*◌, ◌≤◌, ◌++◌, take, map, decimal}
use Rattle.ih_journal.specs.Pieces.{marked}
use Rattle.ih_journal.proofs.texts.put_marked.Given as goal

abbrev pub invariant-loop-n : goal.invariant-loop-n
invariant-loop-n l = record {
  within : l.end ≤ l.at + 21 * l.n-index;
  text : take l.end l.buffer ≡ take l.at l.fn.buffer ++ marked l.separator (map decimal (take l.n-index l.numbers));
}
