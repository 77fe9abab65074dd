use Rattle.ih_bound.proofs.ascending.ascend.Goals as goal

pub ascend_by-requires-after_bounds : goal.ascend_by-requires-after_bounds
ascend_by-requires-after_bounds g c κs within = rw c.as_mut_slice.ensures.value (c.in_ok-workers.ensures c.args.rates.now)
