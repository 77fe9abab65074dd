use Rattle.ih_bound.proofs.sharpening.sharpen.Goals as goal

pub free_all-requires-after_bounds : goal.free_all-requires-after_bounds
free_all-requires-after_bounds g c κs within = rw c.as_mut_slice.ensures.value (c.in_ok-workers.ensures c.none-rates.result)
