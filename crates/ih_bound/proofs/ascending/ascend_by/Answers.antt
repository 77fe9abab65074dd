use Rattle.ih_bound.proofs.ascending.ascend_by.Goals as goal
use Rattle.ih_bound.proofs.ascending.ascend_by.Goals.{else-loop-round-test, then-loop-round-test+then-not-go_on}

pub evaluate-requires-after_bounds : goal.evaluate-requires-after_bounds
evaluate-requires-after_bounds g c κs within = elim c.loop-round-test.branch [
  | else-loop-round-test w ↦ rw w.workers-is c.loop-round.invariant.floors
  | then-loop-round-test+then-not-go_on w ↦ rw w.workers-is w.evaluate-value.ensures.floors
]
