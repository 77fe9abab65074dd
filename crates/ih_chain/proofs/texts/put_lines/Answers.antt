use Rattle.std.proofs.Common.{◌++◌, ◌+◌, ◌∙◌, ap, drop, sym, arith}
use Rattle.ih_chain.specs.Texts.{chain_lines_from}
use Rattle.ih_chain.proofs.Lines.{next-line, last-line}
use Rattle.ih_chain.proofs.texts.put_lines.Goals as goal

pub loop-entry-preserved : goal.loop-entry-preserved
loop-entry-preserved c =
    let k = c.loop-entry.place in
    let i = c.loop-entry.entry-index in
    let es = c.args.entries.now in
    record {
      place = let here = c.loop-entry.invariant.place in omega arith;
      rest = ap (λ xs. xs ++ chain_lines_from (k + 1) (drop (i + 1) es)) c.in_ok-chain_line.ensures
          ∙ (next-line c.loop-entry.out.items es k i c.entry-item.result c.loop-entry-test.true c.entry-item.is ∙ c.loop-entry.invariant.rest);
    }

pub returns : goal.returns
returns c =
    let past = c.loop-entry-test.false in
    sym (last-line c.loop-entry.out.items c.args.entries.now c.loop-entry.place c.loop-entry.entry-index (omega arith))
    ∙ c.loop-entry.invariant.rest
