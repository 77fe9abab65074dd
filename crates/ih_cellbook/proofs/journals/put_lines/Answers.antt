use Rattle.std.proofs.Common.{◌∙◌, sym, arith}
use Rattle.ih_cellbook.proofs.EntrySteps.{next-line, last-line}
use Rattle.ih_cellbook.proofs.journals.put_lines.Goals as goal

pub loop-entry-preserved : goal.loop-entry-preserved
loop-entry-preserved c = record {
  place = let here = c.loop-entry.invariant.place in omega arith;
  rest = rw c.in_ok-put.ensures.ok
      (next-line c.args.options.now c.loop-entry.out.items c.args.entries.now c.loop-entry.place c.loop-entry.entry-index _ c.loop-entry-test.true
      ∙ c.loop-entry.invariant.rest);
}

pub returns : goal.returns
returns c =
    let past = c.loop-entry-test.false in
    sym (last-line c.args.options.now c.loop-entry.out.items c.args.entries.now c.loop-entry.place c.loop-entry.entry-index (omega arith)) ∙ c.loop-entry.invariant.rest
