use Rattle.std.proofs.Common.{◌≡◌, ◌+◌, ◌++◌, take}
use Rattle.ih_journal.proofs.writing.put_text.Given as goal

abbrev pub invariant-loop-b : goal.invariant-loop-b
invariant-loop-b l = record {
  end : l.end ≡ l.at + l.b-index;
  text : take l.end l.buffer ≡ take l.at l.fn.buffer ++ take l.b-index l.bytes;
}
