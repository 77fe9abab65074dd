use Rattle.ih_plan.proofs.BillBounds.{bill-within}
use Rattle.ih_improve.proofs.comparing.Measure.know_bills.Goals as goal

pub returns : goal.returns
returns c = λ P fits. rw (← c.self.view_is) (bill-within c.self.inside.inst.now.draft P c.self.inside.inst.now.valid (rw (← c.self.view_is) at fits))
