use Rattle.std.proofs.Common.{◌≡◌, ◌++◌, drop}
use Rattle.ih_journal.specs.Texts.{lines_from}
use Rattle.ih_cellbook.proofs.journals.put_lines.Given as goal

abbrev pub invariant-loop-entry : goal.invariant-loop-entry
invariant-loop-entry l = record {
  place : l.place ≡ l.entry-index;
  rest : l.out.items ++ lines_from l.options l.place (drop l.entry-index l.entries) ≡ l.fn.out.items ++ lines_from l.options 0 l.entries;
}
