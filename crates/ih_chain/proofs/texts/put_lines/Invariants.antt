use Rattle.std.proofs.Common.{◌≡◌, ◌++◌, drop}
use Rattle.ih_chain.specs.Texts.{chain_lines_from}
use Rattle.ih_chain.proofs.texts.put_lines.Given as goal

abbrev pub invariant-loop-entry : goal.invariant-loop-entry
invariant-loop-entry l = record {
  place : l.place ≡ l.entry-index;
  rest : l.out.items ++ chain_lines_from l.place (drop l.entry-index l.entries)
      ≡ l.fn.out.items ++ chain_lines_from 0 l.entries;
}
