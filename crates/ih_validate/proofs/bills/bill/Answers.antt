use Rattle.ih_plan.proofs.BillBounds.{bill-within}
use Rattle.ih_validate.proofs.bills.bill.Goals as goal

pub returns-clause-within : goal.returns-clause-within
returns-clause-within c = rw c.all_counts.ensures (bill-within c.args.inst.now.draft c.args.plan.now c.args.inst.now.valid c.requires)
