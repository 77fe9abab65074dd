use Rattle.std.proofs.Common.{◌∙◌, arith, sym, ◌∷◌, [], length-append}
use Rattle.ih_plan.proofs.SumLemmas.{which_below-zero}
use Rattle.ih_validate.proofs.ListLemmas.{listed-yes, listed-no}
use Rattle.ih_validate.proofs.number_lists.NumberList.list_below.Goals.{then-keep, else-keep}
use Rattle.ih_validate.proofs.number_lists.NumberList.list_below.Goals as goal

pub loop-x-init : goal.loop-x-init
loop-x-init g c = rw c.clear.ensures (record { listed = λ p h. sym (which_below-zero p); few = omega arith })

pub loop-x-preserved : goal.loop-x-preserved
loop-x-preserved g c =
    let few = c.loop-x.invariant.few in
    elim c.if-keep.branch [
      | then-keep w ↦ rw (w.self-is, w.push.ensures) (record {
        listed = λ p h. (listed-yes {p = p} (record { listed = c.loop-x.invariant.listed p h; few = few })
            (sym w.if-keep.true ∙ h c.loop-x.x c.keep.result c.loop-x-test.true c.keep.ensures)).listed;
        few = omega (arith, length-append c.loop-x.self (c.loop-x.x ∷ []), few);
      })
      | else-keep w ↦ rw w.self-is (record {
        listed = λ p h. (listed-no {p = p} (record { listed = c.loop-x.invariant.listed p h; few = few })
            (sym w.if-keep.false ∙ h c.loop-x.x c.keep.result c.loop-x-test.true c.keep.ensures)).listed;
        few = omega (arith, few);
      })
    ]
