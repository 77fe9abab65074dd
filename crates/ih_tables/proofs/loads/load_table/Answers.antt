use Rattle.std.proofs.Common.{◌∙◌}
use Rattle.ih_tables.proofs.LoadLemmas.{load_more}
use Rattle.ih_tables.proofs.loads.load_table.Goals as goal

pub loop-index-preserved : goal.loop-index-preserved
loop-index-preserved c =
    c.in_ok-push.ensures.items ∙ rw c.load_at.ensures (load_more c.args.draft.now c.loop-index.index c.loop-index.loads.items c.loop-index.invariant)
