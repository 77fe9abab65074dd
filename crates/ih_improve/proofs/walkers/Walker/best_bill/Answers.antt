use Rattle.ih_improve.proofs.WalkerBills.{best-within}
use Rattle.ih_improve.proofs.walkers.Walker.best_bill.Goals as goal

pub returns-clause-within : goal.returns-clause-within
returns-clause-within c =
    let w = c.self.inside in
    best-within w.inst.now.draft w.ledgers w.left_best w.stands_on_best w.bill w.best_bill w.inst.now.valid c.self.invariant
