use Rattle.ih_improve.proofs.WalkerBills.{now-within}
use Rattle.ih_improve.proofs.walkers.Walker.bill.Goals as goal

pub returns-clause-within : goal.returns-clause-within
returns-clause-within c =
    let w = c.self.inside in
    now-within w.inst.now.draft w.ledgers w.left_best w.stands_on_best w.bill w.best_bill w.inst.now.valid c.self.invariant
