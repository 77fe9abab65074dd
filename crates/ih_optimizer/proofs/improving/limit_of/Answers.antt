use Rattle.ih_bound.proofs.HowFar.{gap-true}
use Rattle.ih_optimizer.proofs.improving.limit_of.Goals as goal

pub returns : goal.returns
returns g c = (
  c.if-not-call.false,
  c.in_ok-found.ensures.holds,
  λ P plan. gap-true c.args.inst.now.draft P c.in_ok-found.found plan c.in_ok-found.ensures.holds,
)
