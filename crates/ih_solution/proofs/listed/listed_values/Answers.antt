use Rattle.ih_solution.proofs.ListedValues.{listed-made}
use Rattle.ih_solution.proofs.listed.listed_values.Goals as goal

pub loop-n-preserved : goal.loop-n-preserved
loop-n-preserved g c = λ f h.
    listed-made f c.loop-n.n _ _ _ (c.loop-n.invariant f h) (h c.loop-n.n _ c.loop-n-test.true c.in_ok-value.ensures) c.in_ok-push.ensures.items
