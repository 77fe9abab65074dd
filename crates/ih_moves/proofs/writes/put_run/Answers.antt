use Rattle.std.proofs.Common.{◌*◌, sym, ◌∙◌, arith}
use Rattle.ih_tables.specs.Sizes.{shift_count}
use Rattle.ih_moves.proofs.RunLemmas.{run-before, run-whole}
use Rattle.ih_moves.proofs.writes.put_run.Goals as goal

pub loop-k-init : goal.loop-k-init
loop-k-init c = record {
  made = rw (run-before c.args.inst.now.draft c.args.nurse c.args.room c.args.day.0 c.args.len (3 * c.args.day.0) (omega arith)) c.requires.empty;
  few = rw c.requires.empty (omega arith);
}

pub returns-clause-made : goal.returns-clause-made
returns-clause-made c =
    c.loop-k.invariant.made
    ∙ sym (run-whole c.args.inst.now.draft c.args.nurse c.args.room c.args.day.0 c.args.len c.loop-k.k (shift_count c.args.inst.now.draft) (omega arith))
