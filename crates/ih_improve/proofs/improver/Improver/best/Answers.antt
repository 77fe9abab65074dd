use Rattle.ih_plan.proofs.BillBounds.{bill-within}
use Rattle.ih_improve.proofs.improver.Improver.best.Goals as goal

pub cost-requires-clause-within : goal.cost-requires-clause-within
cost-requires-clause-within c =
    let m = c.self.inside in
    rw c.self.invariant.standing_is (bill-within m.inst.now.draft m.kept m.inst.now.valid c.self.invariant.sound.kept.stands.plan)
