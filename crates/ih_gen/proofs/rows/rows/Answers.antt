use Rattle.ih_gen.proofs.RowLemmas.{row-made, row-goes}
use Rattle.ih_gen.proofs.rows.rows.Goals as goal

pub loop-n-preserved : goal.loop-n-preserved
loop-n-preserved g c =
    let kept = c.loop-n.invariant in
    let made = c.in_ok-make_item.ensures in record {
      values = row-made _ _ _ _ _ _ _ _ kept.values kept.rest made.value c.in_ok-push.ensures.items;
      rest = row-goes _ _ _ _ _ made.rest kept.rest;
    }
